-- The pairs of equal numbers.
use Rattle.std.proofs.Common.{◌≡◌, ℕ, zero, suc, ◌<◌, inl, inr, List, [], ◌∷◌, sym, ap, ◌∙◌, arith}
use Rattle.std.proofs.lemmas.Bool.{cases_eq}
use Rattle.auto_core.proofs.PathLemmas.{Contains-here, Contains-later, Contains-cons_cases, none_in_nil}
use Rattle.auto_core.specs.Game.{Holds}

-- the pairs of equal numbers below n
pub same_below : ℕ → List (ℕ × ℕ)
same_below zero = []
same_below (suc n) = (n, n) ∷ same_below n

pub same_holds : (n p q : ℕ) → Holds (same_below n) p q → (p ≡ q) × (p < n)
unfolding same_below
same_holds zero p q h = absurd (none_in_nil (p, q) h)
same_holds (suc n) p q h = elim (Contains-cons_cases (n, n) (p, q) (same_below n) h) [
  | inl e ↦
      let left : n ≡ p = ap (λ (x : ℕ × ℕ). x.0) e in
      let right : n ≡ q = ap (λ (x : ℕ × ℕ). x.1) e in
      (sym left ∙ right, omega arith)
  | inr later ↦ let is = same_holds n p q later in let lt = is.1 in (is.0, omega arith)
]

pub same_has : (n p : ℕ) → p < n → Holds (same_below n) p p
unfolding same_below
same_has zero p lt = absurd (omega arith)
same_has (suc n) p lt = elim (cases_eq p n) [
  | inl e ↦ Contains-here (n, n) (p, p) (same_below n) (ap (λ x. (x, x)) (sym e))
  | inr apart ↦ Contains-later (n, n) (p, p) (same_below n) (same_has n p (omega arith))
]
