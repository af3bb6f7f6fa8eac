use Rattle.std.proofs.Common.{◌≡◌, ◌∙◌, ◌∷◌, List, ℕ, false, codes, map, Global, None, if◌then◌else◌, sym, ap}
use Rattle.std.proofs.lemmas.Result.{IfOk-weaker}
use Rattle.std.specs.String.{string_bytes}
use Rattle.rabit_words.specs.Question.{told, IsProper, has_help_word, asks_on_line, question_of}
use Rattle.rabit_words.proofs.RangeLemmas.{question_is_proper}
use Rattle.rabit_words.proofs.WordLemmas.{told_gives}
use Rattle.rabit_words.proofs.asking.question.Goals as goal

pub returns-clause-proper : goal.returns-clause-proper
returns-clause-proper c =
    let words : List (List ℕ) = map (string_bytes {Z = Global}) c.args.words.now in
    let help : has_help_word words ≡ false = sym c.has_help_word.ensures ∙ c.if-has_help_word.false in
    let line : map (λ w. w.now) c.as_slice.result.now ≡ codes "rabit" ∷ words = ap (map (λ w. w.now)) c.as_slice.ensures.value ∙ c.in_ok-line.ensures in
    let rest : asks_on_line (codes "rabit" ∷ words) ≡ question_of words = sym (ap (λ b. if b then None else asks_on_line (codes "rabit" ∷ words)) help) in
    IfOk-weaker c.asked_on.result _ _ (λ o is. told_gives IsProper told o (question_of words) (is ∙ ap asks_on_line line ∙ rest) (question_is_proper words)) c.asked_on.ensures
