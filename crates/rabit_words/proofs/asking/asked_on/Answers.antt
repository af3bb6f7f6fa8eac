use Rattle.std.proofs.Common.{◌≡◌, ◌∙◌, ℕ, List, [], true, map, option_map, refl, sym, ap, subst, inl, inr}
use Rattle.std.proofs.lemmas.Result.{IfOk-weaker}
use Rattle.clap.specs.Words.{app_of, is_simple, is_simple_and_free, fault_of, subcommand_of, subcommand_rows_of, kind_of, IsAmong}
use Rattle.rabit_words.specs.Command.{rabit_app}
use Rattle.rabit_words.specs.Question.{told, asks_found, asks_unless, asks_on_line}
use Rattle.rabit_words.proofs.WordLemmas.{faulty}
use Rattle.rabit_words.proofs.asking.asked_on.Goals as goal

simple : is_simple rabit_app ≡ true
simple = refl

free : is_simple_and_free rabit_app ≡ true
free = refl

pub returns-in-Ok : goal.returns-in-Ok
returns-in-Ok c =
    let line : List (List ℕ) = map (λ w. w.now) c.args.line.now in
    let is : app_of c.in_ok-command.command ≡ rabit_app = c.in_ok-command.ensures in
    let none : fault_of rabit_app line ≡ [] = subst (λ a. fault_of a line ≡ []) is (c.in-Ok.ensures.kinds (ap is_simple_and_free is ∙ free)) in
    let found : subcommand_rows_of c.in-Ok.matches ≡ subcommand_of rabit_app line = (c.in-Ok.ensures.matches (ap is_simple is ∙ simple)).1 ∙ ap (λ a. subcommand_of a line) is in
    IfOk-weaker c.asked_in.result _ (λ asked. option_map told asked ≡ asks_on_line line)
    (λ asked e. e ∙ ap asks_found found ∙ sym (ap (λ ks. asks_unless ks (subcommand_of rabit_app line)) none)) c.asked_in.ensures

pub returns : goal.returns
returns c =
    let line : List (List ℕ) = map (λ w. w.now) c.args.line.now in
    let is : app_of c.in_ok-command.command ≡ rabit_app = c.in_ok-command.ensures in
    elim (c.in-Err.ensures.kinds (ap is_simple_and_free is ∙ free)) [
      | inl memory ↦ absurd (c.in_default.not-OutOfMemory (c.kind.ensures ∙ memory))
      | inr among ↦ faulty (kind_of c.in-Err.error) (fault_of rabit_app line) (subcommand_of rabit_app line) (subst (λ a. IsAmong (kind_of c.in-Err.error) (fault_of a line)) is among)
    ]
