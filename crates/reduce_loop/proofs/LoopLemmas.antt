-- What is known on the way through the passes.
use Rattle.std.proofs.Common.{◌≡◌, ℕ, suc, ◌+◌, ◌<◌, inl, inr, List, [], ◌∷◌, ◌++◌, length, Contains, take, get_or, refl, sym, ap, ◌∙◌, subst, arith, length-append}
use Rattle.std.proofs.lemmas.List.{append_assoc, append-nil, take_more}
use Rattle.std.proofs.lemmas.List.Elements.{Contains-append_cases}
use Rattle.auto_core.specs.Automaton.{Automaton, IsAutomaton}
use Rattle.auto_core.specs.declared.parts.Mode.{Mode}
use Rattle.auto_core.proofs.PathLemmas.{Contains-cons_cases, none_in_nil}
use Rattle.reduce_loop.specs.declared.steps.Foresight.{Foresight}
use Rattle.reduce_loop.specs.declared.steps.Kind.{Kind}
use Rattle.reduce_loop.specs.declared.steps.Step.{Step}
use Rattle.reduce_loop.specs.Kinds.{kinds_of, After}
use Rattle.reduce_loop.specs.Logs.{IsLogged, LogThrough, LogsOn, IsLog}
use Rattle.reduce_loop.specs.Passes.{AreIdle}
use Rattle.reduce_loop.specs.Size.{size_of}
use Rattle.reduce_loop.proofs.PassLemmas.{log_on, log_tells}

-- one step more, the next of the list
pub logs_more :
    (A B C : Automaton) (mode : Mode) (sight : Foresight) (i : ℕ) (kinds : List Kind) (kind d : Kind) (start log new now : List Step)
    → LogsOn A mode sight (take i kinds) start B log
    → i < length kinds
    → kind ≡ get_or kinds i d
    → After B mode sight kind C
    → IsLogged B mode sight kind C now
    → new ≡ log ++ now
    → LogsOn A mode sight (take (i + 1) kinds) start C new
logs_more A B C mode sight i kinds kind d start log new now (front, through, is) lt at step logged more = (
  front ++ now,
  subst (λ l. LogThrough A mode sight l C (front ++ now)) (ap (λ x. take i kinds ++ x ∷ []) at ∙ sym (take_more kinds i d lt)) (log_on mode sight (take i kinds) kind A B C front now through step logged),
  more ∙ ap (λ l. l ++ now) is ∙ append_assoc start front now,
)

-- a step of one kind more leaves A as it is
pub idle_more : (A : Automaton) (mode : Mode) (sight : Foresight) (kinds new : List Kind) (kind : Kind) → AreIdle A mode sight kinds → After A mode sight kind A → new ≡ kinds ++ kind ∷ [] → AreIdle A mode sight new
idle_more A mode sight kinds new kind idle after is other h = elim (Contains-append_cases kinds (kind ∷ []) other (subst (λ l. Contains l other) is h)) [
  | inl before ↦ idle other before
  | inr behind ↦ elim (Contains-cons_cases kind other [] behind) [
    | inl e ↦ subst (λ k. After A mode sight k A) e after
    | inr later ↦ absurd (none_in_nil other later)
  ]
]

-- What leads on from B, behind this log, leads on from A.
abbrev pub Leads : Automaton → Mode → Foresight → Automaton → List Step → Type 0
Leads A mode sight B log = (C : Automaton) (more : List Step) → IsLog B mode sight C more → IsLog A mode sight C (log ++ more)

pub leads_itself : (A B : Automaton) (mode : Mode) (sight : Foresight) (log : List Step) → B ≡ A → log ≡ [] → Leads A mode sight B log
leads_itself A B mode sight log e none C more is =
    subst (λ l. IsLog A mode sight C (l ++ more)) (sym none) (subst (λ X. IsLog X mode sight C more) e is)

-- a pass that changes nothing, told by the length of the log, ends the passes
pub ends : (A B C : Automaton) (mode : Mode) (sight : Foresight) (log new : List Step) → IsAutomaton B → Leads A mode sight B log → LogsOn B mode sight (kinds_of mode) log C new → length new ≡ length log → IsLog A mode sight C new
ends A B C mode sight log new valid leads (now, through, is) len = elim (log_tells mode sight (kinds_of mode) B C now valid through) [
  | inl still ↦
      let last : LogThrough B mode sight (kinds_of mode) B [] = subst (λ X. LogThrough B mode sight (kinds_of mode) X []) still.0 (subst (λ l. LogThrough B mode sight (kinds_of mode) C l) still.1 through) in
      let whole : IsLog A mode sight C (log ++ []) = leads C [] (0, (still.0, last)) in
      subst (λ l. IsLog A mode sight C l) (ap (λ l. log ++ l) (sym still.1) ∙ sym is) whole
  | inr changed ↦
      let some = changed.2 in
      let whole : length new ≡ length log + length now = ap length is ∙ length-append log now in
      absurd (omega arith)
]

-- What is known after a pass that changed something.
pub record IsFurther (A B C : Automaton) (mode : Mode) (sight : Foresight) (new : List Step) : Type 0 where
  pub less : size_of C < size_of B
  pub leads : Leads A mode sight C new

pub goes_on : (A B C : Automaton) (mode : Mode) (sight : Foresight) (log new : List Step) → IsAutomaton B → Leads A mode sight B log → LogsOn B mode sight (kinds_of mode) log C new → (length new ≡ length log → ⊥) → IsFurther A B C mode sight new
goes_on A B C mode sight log new valid leads (now, through, is) differs = elim (log_tells mode sight (kinds_of mode) B C now valid through) [
  | inl still ↦ absurd (differs (ap length (is ∙ ap (λ l. log ++ l) still.1 ∙ append-nil log)))
  | inr changed ↦ record {
    less = changed.1;
    leads = λ D more (n, passes).
        let whole : IsLog A mode sight D (log ++ (now ++ more)) = leads D (now ++ more) (suc n, (C, now, more, through, changed.0, passes, refl)) in
        subst (λ l. IsLog A mode sight D l) (sym (append_assoc log now more) ∙ ap (λ l. l ++ more) (sym is)) whole;
  }
]
