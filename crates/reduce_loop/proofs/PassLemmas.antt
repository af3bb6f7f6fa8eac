-- The laws of passes, from those of the steps.
use Rattle.std.proofs.Common.{◌≡◌, ℕ, zero, suc, ◌+◌, ◌<◌, ◌≤◌, ◌⊎◌, inl, inr, List, [], ◌∷◌, ◌++◌, length, Contains, refl, sym, ap, ◌∙◌, subst, arith, length-append}
use Rattle.std.proofs.lemmas.List.{append_assoc, append-nil}
use Rattle.auto_core.specs.Automaton.{Automaton, IsAutomaton}
use Rattle.auto_core.specs.Accept.{Includes, Same}
use Rattle.auto_core.specs.declared.parts.Mode.{Mode}
use Rattle.auto_core.specs.declared.parts.Mode.TheVariants.{Buchi, Finite}
use Rattle.auto_core.proofs.PathLemmas.{Contains-here, Contains-later, Contains-cons_cases, none_in_nil}
use Rattle.reduce_loop.specs.declared.steps.Foresight.{Foresight}
use Rattle.reduce_loop.specs.declared.steps.Kind.{Kind}
use Rattle.reduce_loop.specs.declared.steps.Step.{Step}
use Rattle.reduce_loop.specs.Kinds.{kinds_of, After}
use Rattle.reduce_loop.specs.Passes.{Through, LeadByPasses, IsReduced}
use Rattle.reduce_loop.specs.Settled.{IsSettled}
use Rattle.reduce_loop.specs.Logs.{IsLogged, LogThrough, LogPasses, IsLog}
use Rattle.reduce_loop.specs.Size.{size_of, IsNoLarger}
use Rattle.reduce_loop.specs.Laws.{ReducedAcceptsTheSame, ReducedIsNoLarger, ReducedIsSettled, ReducedIsOne, LogIsOfReduced}
use Rattle.reduce_loop.proofs.SizeLemmas.{IsSmaller}
use Rattle.reduce_loop.proofs.StepLemmas.{after_valid, after_smaller, after_one, after_same, after_settled}

-- ---- accepting the same

same_itself : (A : Automaton) (mode : Mode) → Same A A mode
same_itself A Buchi = ((λ u v h. h), (λ u v h. h))
same_itself A Finite = ((λ w h. h), (λ w h. h))

includes_on : (A B C : Automaton) (mode : Mode) → Includes A B mode → Includes B C mode → Includes A C mode
includes_on A B C Buchi first second = λ u v h. second u v (first u v h)
includes_on A B C Finite first second = λ w h. second w (first w h)

same_on : (A B C : Automaton) (mode : Mode) → Same A B mode → Same B C mode → Same A C mode
same_on A B C mode first second = (includes_on A B C mode first.0 second.0, includes_on C B A mode second.1 first.1)

-- ---- sizes

no_larger_itself : (A B : Automaton) → B ≡ A → IsNoLarger A B
no_larger_itself A B e = record {
  labels = ap (λ (X : Automaton). X.labels) e;
  states = let same = ap (λ (X : Automaton). X.states) e in omega arith;
  transitions = let same = ap (λ (X : Automaton). length X.transitions) e in omega arith;
}

no_larger_on : (A B C : Automaton) → IsNoLarger A B → IsNoLarger B C → IsNoLarger A C
no_larger_on A B C first second =
    let first_states = first.states in
    let second_states = second.states in
    let first_transitions = first.transitions in
    let second_transitions = second.transitions in
    record { labels = second.labels ∙ first.labels; states = omega arith; transitions = omega arith }

-- ---- steps one after the other

module _ (mode : Mode) (sight : Foresight) where
  pub through_valid : (kinds : List Kind) (A C : Automaton) → IsAutomaton A → Through A mode sight kinds C → IsAutomaton C
  through_valid [] A C valid e = subst IsAutomaton (sym e) valid
  through_valid (kind ∷ kinds) A C valid (B, step, rest) = through_valid kinds B C (after_valid A B mode sight kind step) rest

  smaller_on : (A B C : Automaton) → IsSmaller A B → IsSmaller B C → IsSmaller A C
  smaller_on A B C first second = record {
    no_larger = no_larger_on A B C first.no_larger second.no_larger;
    same_or_less = elim first.same_or_less [
      | inl e ↦ elim second.same_or_less [
        | inl f ↦ inl (f ∙ e)
        | inr less ↦ inr (subst (λ X. size_of C < size_of X) e less)
      ]
      | inr less ↦ elim second.same_or_less [
        | inl f ↦ inr (subst (λ X. size_of X < size_of A) (sym f) less)
        | inr lesser ↦ inr (omega arith)
      ]
    ];
  }

  pub through_smaller : (kinds : List Kind) (A C : Automaton) → IsAutomaton A → Through A mode sight kinds C → IsSmaller A C
  through_smaller [] A C valid e = record { no_larger = no_larger_itself A C e; same_or_less = inl e }
  through_smaller (kind ∷ kinds) A C valid (B, step, rest) =
      smaller_on A B C (after_smaller A B mode sight kind valid step) (through_smaller kinds B C (after_valid A B mode sight kind step) rest)

  pub through_one : (kinds : List Kind) (A B C : Automaton) → IsAutomaton A → Through A mode sight kinds B → Through A mode sight kinds C → B ≡ C
  through_one [] A B C valid e f = e ∙ sym f
  through_one (kind ∷ kinds) A B C valid (X, step, rest) (Y, other, more) =
      let same = after_one A X Y mode sight kind valid step other in
      through_one kinds X B C (after_valid A X mode sight kind step) rest (subst (λ Z. Through Z mode sight kinds C) (sym same) more)

  through_same : 1 ≤ sight.look → (kinds : List Kind) → ((kind : Kind) → Contains kinds kind → Contains (kinds_of mode) kind) → (A C : Automaton) → IsAutomaton A → Through A mode sight kinds C → Same A C mode
  through_same some [] listed A C valid e = subst (λ X. Same A X mode) (sym e) (same_itself A mode)
  through_same some (kind ∷ kinds) listed A C valid (B, step, rest) =
      same_on A B C mode (after_same A B mode sight kind valid some (listed kind (Contains-here kind kind kinds refl)) step)
      (through_same some kinds (λ x h. listed x (Contains-later kind x kinds h)) B C (after_valid A B mode sight kind step) rest)

  -- steps that lead back to A leave it as it is, each of them
  back_again : (A B : Automaton) → IsSmaller A B → IsSmaller B A → B ≡ A
  back_again A B first second = elim first.same_or_less [
    | inl e ↦ e
    | inr less ↦ elim second.same_or_less [
      | inl e ↦ sym e
      | inr more ↦ absurd (omega arith)
    ]
  ]

  through_settled : (kinds : List Kind) (A : Automaton) → IsAutomaton A → Through A mode sight kinds A → (kind : Kind) → Contains kinds kind → After A mode sight kind A
  through_settled [] A valid e kind h = absurd (none_in_nil kind h)
  through_settled (first ∷ kinds) A valid (B, step, rest) kind h =
      let same : B ≡ A = back_again A B (after_smaller A B mode sight first valid step) (through_smaller kinds B A (after_valid A B mode sight first step) rest) in
      elim (Contains-cons_cases first kind kinds h) [
        | inl e ↦ subst (λ x. After A mode sight x A) e (subst (λ X. After A mode sight first X) same step)
        | inr later ↦ through_settled kinds A valid (subst (λ X. Through X mode sight kinds A) same rest) kind later
      ]

  -- ---- passes

  passes_one : (n m : ℕ) (A B C : Automaton) → IsAutomaton A → LeadByPasses A mode sight n B → LeadByPasses A mode sight m C → B ≡ C
  passes_one zero zero A B C valid (e, settled) (f, also) = e ∙ sym f
  passes_one zero (suc m) A B C valid (e, settled) (X, pass, changed, rest) = absurd (changed (through_one (kinds_of mode) A X A valid pass settled))
  passes_one (suc n) zero A B C valid (X, pass, changed, rest) (e, settled) = absurd (changed (through_one (kinds_of mode) A X A valid pass settled))
  passes_one (suc n) (suc m) A B C valid (X, pass, changed, rest) (Y, other, differs, more) =
      let same = through_one (kinds_of mode) A X Y valid pass other in
      passes_one n m X B C (through_valid (kinds_of mode) A X valid pass) rest (subst (λ Z. LeadByPasses Z mode sight m C) (sym same) more)

  passes_same : 1 ≤ sight.look → (n : ℕ) (A C : Automaton) → IsAutomaton A → LeadByPasses A mode sight n C → Same A C mode
  passes_same some zero A C valid (e, settled) = subst (λ X. Same A X mode) (sym e) (same_itself A mode)
  passes_same some (suc n) A C valid (B, pass, changed, rest) =
      same_on A B C mode (through_same some (kinds_of mode) (λ x h. h) A B valid pass) (passes_same some n B C (through_valid (kinds_of mode) A B valid pass) rest)

  passes_no_larger : (n : ℕ) (A C : Automaton) → IsAutomaton A → LeadByPasses A mode sight n C → IsNoLarger A C
  passes_no_larger zero A C valid (e, settled) = no_larger_itself A C e
  passes_no_larger (suc n) A C valid (B, pass, changed, rest) =
      no_larger_on A B C (through_smaller (kinds_of mode) A B valid pass).no_larger (passes_no_larger n B C (through_valid (kinds_of mode) A B valid pass) rest)

  passes_settled : (n : ℕ) (A C : Automaton) → IsAutomaton A → LeadByPasses A mode sight n C → IsSettled C mode sight
  passes_settled zero A C valid (e, settled) =
      subst (λ X. IsSettled X mode sight) (sym e) (λ kind h. after_settled A mode sight kind (through_settled (kinds_of mode) A valid settled kind h))
  passes_settled (suc n) A C valid (B, pass, changed, rest) = passes_settled n B C (through_valid (kinds_of mode) A B valid pass) rest

  -- ---- logs

  pub log_through : (kinds : List Kind) (A C : Automaton) (log : List Step) → LogThrough A mode sight kinds C log → Through A mode sight kinds C
  log_through [] A C log (e, none) = e
  log_through (kind ∷ kinds) A C log (B, now, later, step, logged, rest, is) = (B, step, log_through kinds B C later rest)

  log_passes : (n : ℕ) (A C : Automaton) (log : List Step) → LogPasses A mode sight n C log → LeadByPasses A mode sight n C
  log_passes zero A C log (e, through) = (e, log_through (kinds_of mode) A A log through)
  log_passes (suc n) A C log (B, now, later, through, changed, rest, is) = (B, log_through (kinds_of mode) A B now through, changed, log_passes n B C later rest)

  pub log_reduced : (A C : Automaton) (log : List Step) → IsLog A mode sight C log → IsReduced A mode sight C
  log_reduced A C log (n, passes) = (n, log_passes n A C log passes)

  -- one step more
  pub log_on :
      (kinds : List Kind) (kind : Kind) (A B C : Automaton) (log now : List Step)
      → LogThrough A mode sight kinds B log
      → After B mode sight kind C
      → IsLogged B mode sight kind C now
      → LogThrough A mode sight (kinds ++ kind ∷ []) C (log ++ now)
  log_on [] kind A B C log now (e, none) step logged = (
    C,
    now,
    [],
    subst (λ X. After X mode sight kind C) e step,
    subst (λ X. IsLogged X mode sight kind C now) e logged,
    (refl, refl),
    ap (λ l. l ++ now) none ∙ sym (append-nil now),
  )
  log_on (first ∷ kinds) kind A B C log now (X, front, back, taken, told, rest, is) step logged = (
    X,
    front,
    back ++ now,
    taken,
    told,
    log_on kinds kind X B C back now rest step logged,
    ap (λ l. l ++ now) is ∙ append_assoc front back now,
  )

  -- nothing is logged just where nothing changed
  pub log_tells : (kinds : List Kind) (A C : Automaton) (log : List Step) → IsAutomaton A → LogThrough A mode sight kinds C log → ((C ≡ A) × (log ≡ [])) ⊎ ((C ≡ A → ⊥) × (size_of C < size_of A) × (1 ≤ length log))
  log_tells [] A C log valid (e, none) = inl (e, none)
  log_tells (kind ∷ kinds) A C log valid (B, now, later, step, logged, rest, is) =
      let whole : length log ≡ length now + length later = ap length is ∙ length-append now later in
      let through = log_through kinds B C later rest in
      let after = through_smaller kinds B C (after_valid A B mode sight kind step) through in
      elim logged [
        | inl still ↦ elim (log_tells kinds B C later (after_valid A B mode sight kind step) rest) [
          | inl all ↦ inl (all.0 ∙ still.0, is ∙ ap (λ l. l ++ later) still.1 ∙ all.1)
          | inr more ↦
              let less : size_of C < size_of A = subst (λ X. size_of C < size_of X) still.0 more.1 in
              let some = more.2 in
              inr (subst (λ X. C ≡ X → ⊥) still.0 more.0, less, omega arith)
        ]
        | inr changed ↦
            let (entry, is_entry, one) = changed.1 in
            let now_len : length now ≡ 1 = ap length one in
            let less : size_of B < size_of A = elim (after_smaller A B mode sight kind valid step).same_or_less [ inl e ↦ absurd (changed.0 e) | inr lt ↦ lt ] in
            let lesser : size_of C < size_of A = elim after.same_or_less [
              | inl e ↦ subst (λ X. size_of X < size_of A) (sym e) less
              | inr lt ↦ omega arith
            ] in
            inr ((λ e. let f = ap size_of e in omega arith), lesser, omega arith)
      ]

-- ---- the laws

pub reduced_same : ReducedAcceptsTheSame
reduced_same A B mode sight valid some (n, passes) = passes_same mode sight some n A B valid passes

pub reduced_no_larger : ReducedIsNoLarger
reduced_no_larger A B mode sight valid some (n, passes) = passes_no_larger mode sight n A B valid passes

pub reduced_settled : ReducedIsSettled
reduced_settled A B mode sight valid some (n, passes) = passes_settled mode sight n A B valid passes

pub reduced_one : ReducedIsOne
reduced_one A B C mode sight valid some (n, passes) (m, others) = passes_one mode sight n m A B C valid passes others

pub log_of_reduced : LogIsOfReduced
log_of_reduced A B mode sight log is = log_reduced mode sight A B log is
