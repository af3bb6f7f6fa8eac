-- Towers of strict steps below a number, and how high they can be.
use Rattle.std.proofs.Common.{◌≡◌, ℕ, zero, suc, ◌+◌, ◌<◌, inl, inr, List, [], ◌∷◌, refl, sym, ap, subst, arith}
use Rattle.auto_core.specs.Game.{Chain, Close, Strict, Holds, ArePairsBelow}
use Rattle.auto_core.proofs.PathLemmas.{Contains-cons_cases, none_in_nil}
use Rattle.auto_laws.proofs.PumpingLemmas.{chain_join}
use Rattle.auto_laws.proofs.AppliedLemmas.{strict_steps_are_few}

-- c strict steps lead up to p
abbrev pub Tower : (ℕ → ℕ → Type 0) → ℕ → ℕ → Type 0
Tower R zero p = Unit {0}
Tower R (suc c) p = (q : ℕ) × Strict R q p × Tower R c q

-- and so to all that p is related to
pub tower_up : (R : ℕ → ℕ → Type 0) → ((p q r : ℕ) → R p q → R q r → R p r) → (c p q : ℕ) → R p q → Tower R c p → Tower R c q
tower_up R joins zero p q h t = tt
tower_up R joins (suc c) p q h (s, strict, t) = (s, (joins s p q strict.0 h, λ back. strict.1 (joins p q s h back)), t)

tower_chain : (R : ℕ → ℕ → Type 0) (c p : ℕ) → Tower R c p → (x : ℕ) × Chain (Strict R) c x p
tower_chain R zero p t = (p, refl)
tower_chain R (suc c) p (q, strict, t) =
    let (x, chain) = tower_chain R c q t in
    let e : c + 1 ≡ suc c = omega arith in
    (x, subst (λ m. Chain (Strict R) m x p) e (chain_join (Strict R) c 1 x q p chain (p, strict, refl)))

-- a number that all pairs of the list are below
bound_of : (S : List (ℕ × ℕ)) → (n : ℕ) × ArePairsBelow n n S
bound_of [] = (0, λ p q h. absurd (none_in_nil (p, q) h))
bound_of ((x, y) ∷ S) =
    let (n, below) = bound_of S in (
      suc (x + y + n),
      λ p q h. elim (Contains-cons_cases (x, y) (p, q) S h) [
        | inl e ↦ let first : x ≡ p = ap (λ z. z.0) e in let second : y ≡ q = ap (λ z. z.1) e in (omega arith, omega arith)
        | inr later ↦ let r = below p q later in let left = r.0 in let right = r.1 in (omega arith, omega arith)
      ],
    )

strict_below : (S : List (ℕ × ℕ)) (n : ℕ) → ArePairsBelow n n S → (p q : ℕ) → Strict (Close (Holds S)) p q → p < n
strict_below S n below p q ((zero, c), apart) = absurd (apart (zero, sym c))
strict_below S n below p q ((suc m, (r, held, c)), apart) = (below p r held).0

-- towers over the closure of a list are lower than some number
pub towers_are_low : (S : List (ℕ × ℕ)) → (bound : ℕ) × ((c p : ℕ) → Tower (Close (Holds S)) c p → c < bound)
towers_are_low S = let (n, below) = bound_of S in (suc n, low n below)
  where
    low : (n : ℕ) → ArePairsBelow n n S → (c p : ℕ) → Tower (Close (Holds S)) c p → c < suc n
    low n below zero p t = omega arith
    low n below (suc c) p t =
        let (x, (y, strict, chain)) = tower_chain (Close (Holds S)) (suc c) p t in
        let few = strict_steps_are_few n S below (suc c) x p (strict_below S n below x y strict) (y, strict, chain) in
        omega arith
