-- Each state of a trimmed automaton is the initial one or the target of a transition.
use Rattle.std.proofs.Common.{◌≡◌, ℕ, zero, suc, ◌+◌, ◌<◌, ◌≤◌, Bool, true, false, List, [], ◌∷◌, Contains, ◌⊎◌, inl, inr, refl, sym, ap, ◌∙◌, ◌==◌, arith, if◌then◌else◌}
use Rattle.std.specs.List.{list_any}
use Rattle.std.proofs.lemmas.Bool.{or_cases, eqb-true, cases_eq}
use Rattle.auto_core.specs.declared.parts.Trans.{Trans}
use Rattle.auto_core.specs.declared.parts.Mode.{Mode}
use Rattle.auto_core.specs.Automaton.{Automaton, trans}
use Rattle.auto_core.specs.Run.{Run}
use Rattle.auto_core.specs.Useful.{count_below, stays, IsTrimmed}
use Rattle.auto_core.proofs.Accepting.{Contains-from_test}

-- The state is the initial one or the target of a transition.
abbrev pub IsEntered : Automaton → ℕ → ℕ → Type 0
IsEntered A p q = (p ≡ q) ⊎ ((t : Trans) × Contains A.transitions t × (t.target ≡ q))

run_enters : (A : Automaton) (p : ℕ) (w : List ℕ) (q : ℕ) (flag : Bool) → Run A p w q flag → IsEntered A p q
run_enters A p [] q flag (e, f) = inl e
run_enters A p (a ∷ w) q flag (next, later, move, rest, f) = elim (run_enters A next w q later rest) [
  | inl e ↦ inr (trans p a next, move, e)
  | inr t ↦ inr t
]

-- Where all pass the test, each does.
count_most : (test : ℕ → Bool) (n : ℕ) → count_below test n ≤ n
count_most test zero = omega arith
count_most test (suc n) = by (test n) (count_most test n)
  where
    by : (b : Bool) → count_below test n ≤ n → count_below test n + (if b then 1 else 0) ≤ suc n
    by true h = omega arith
    by false h = omega arith

each_passes : (test : ℕ → Bool) (n k : ℕ) → n ≤ count_below test n → k < n → test k ≡ true
each_passes test zero k h lt = absurd (omega arith)
each_passes test (suc n) k h lt = by (test n) refl h (each_passes test n k)
  where
    by : (b : Bool) → test n ≡ b → suc n ≤ count_below test n + (if b then 1 else 0) → (n ≤ count_below test n → k < n → test k ≡ true) → test k ≡ true
    by false e g before = absurd (omega (arith, count_most test n))
    by true e g before = elim (cases_eq k n) [
      | inl same ↦ ap test same ∙ e
      | inr differ ↦ before (omega arith) (omega arith)
    ]

pub states_entered : (A : Automaton) (mode : Mode) → IsTrimmed A mode A → (q : ℕ) → q < A.states → IsEntered A A.initial q
states_entered A mode (kept, useful, part) q lt = elim (or_cases (list_any (λ x. x == q) kept) (q == A.initial) (each_passes (stays A kept) A.states q (omega (arith, part.states)) lt)) [
  | inl there ↦
      let u = (useful q).0 (Contains-from_test kept q there) in
      run_enters A A.initial u.reached.0 q u.reached.1 u.reached.2
  | inr here ↦ inl (sym (eqb-true q A.initial here))
]
