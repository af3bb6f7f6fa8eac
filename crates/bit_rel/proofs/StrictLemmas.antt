-- The strict part, pair by pair.
use Rattle.std.proofs.Common.{◌≡◌, ℕ, ◌+◌, ◌<◌, ◌≤◌, ◌⊎◌, ◌↔◌, inl, inr, sym, subst, arith}
use Rattle.std.proofs.lemmas.Bool.{cases_eq}
use Rattle.auto_core.specs.Game.{Holds, Strict}
use Rattle.bit_rel.specs.Relation.{Relation, IsRelation, Adds}

-- The part holds what it held and the strict pairs of p with numbers below n.
abbrev pub HasStrictUpto : Relation → Relation → Relation → ℕ → ℕ → Type 0
HasStrictUpto whole old now p n =
    (now.size ≡ old.size)
    × ((r s : ℕ) → Holds now.pairs r s ↔ (Holds old.pairs r s ⊎ ((r ≡ p) × (s < n) × Strict (Holds whole.pairs) r s)))

pub strict_added :
    (whole old now new : Relation) (p n : ℕ)
    → HasStrictUpto whole old now p n
    → Strict (Holds whole.pairs) p n
    → Adds now new p n
    → HasStrictUpto whole old new p (n + 1)
strict_added whole old now new p n (size, pairs) is adds = (
  let same = adds.size in omega (arith, size, same),
  λ r s. (
    λ h. elim ((adds.pairs r s).0 h) [
      | inl was ↦ elim ((pairs r s).0 was) [ inl first ↦ inl first | inr here ↦ let lt = here.1 in inr (here.0, omega arith, here.2) ]
      | inr same ↦
          let P : ℕ → Type 0 = λ x. Strict (Holds whole.pairs) x s in
          let Q : ℕ → Type 0 = λ x. Strict (Holds whole.pairs) p x in
          inr (same.0, omega (arith, same.1), subst P (sym same.0) (subst Q (sym same.1) is))
    ],
    λ h. elim h [
      | inl first ↦ (adds.pairs r s).1 (inl ((pairs r s).1 (inl first)))
      | inr here ↦ elim (cases_eq s n) [
        | inl e ↦ (adds.pairs r s).1 (inr (here.0, e))
        | inr apart ↦ let lt = here.1 in (adds.pairs r s).1 (inl ((pairs r s).1 (inr (here.0, omega arith, here.2))))
      ]
    ],
  ),
)

pub strict_passed :
    (whole old now : Relation) (p n : ℕ)
    → HasStrictUpto whole old now p n
    → (Strict (Holds whole.pairs) p n → ⊥)
    → HasStrictUpto whole old now p (n + 1)
strict_passed whole old now p n (size, pairs) not = (
  size,
  λ r s. (
    λ h. elim ((pairs r s).0 h) [ inl first ↦ inl first | inr here ↦ let lt = here.1 in inr (here.0, omega arith, here.2) ],
    λ h. elim h [
      | inl first ↦ (pairs r s).1 (inl first)
      | inr here ↦ elim (cases_eq s n) [
        | inl e ↦
            let P : ℕ → Type 0 = λ x. Strict (Holds whole.pairs) x s in
            let Q : ℕ → Type 0 = λ x. Strict (Holds whole.pairs) p x in
            absurd (not (subst Q e (subst P here.0 here.2)))
        | inr apart ↦ let lt = here.1 in (pairs r s).1 (inr (here.0, omega arith, here.2))
      ]
    ],
  ),
)

pub strict_row :
    (whole old now : Relation) (p n : ℕ)
    → IsRelation whole
    → whole.size ≤ n
    → HasStrictUpto whole old now p n
    → (r s : ℕ)
    → Holds now.pairs r s ↔ (Holds old.pairs r s ⊎ ((r ≡ p) × Strict (Holds whole.pairs) r s))
strict_row whole old now p n valid all (size, pairs) r s = (
  λ h. elim ((pairs r s).0 h) [ inl first ↦ inl first | inr here ↦ inr (here.0, here.2) ],
  λ h. elim h [
    | inl first ↦ (pairs r s).1 (inl first)
    | inr here ↦ let below = valid.in_range r s here.1.0 in let lt = below.1 in (pairs r s).1 (inr (here.0, omega arith, here.1))
  ],
)

-- The part holds the strict pairs of the numbers below n.
abbrev pub HasStrictBelow : Relation → Relation → ℕ → Type 0
HasStrictBelow whole now n =
    (now.size ≡ whole.size)
    × ((r s : ℕ) → Holds now.pairs r s ↔ ((r < n) × Strict (Holds whole.pairs) r s))

pub strict_more :
    (whole now new : Relation) (p : ℕ)
    → HasStrictBelow whole now p
    → new.size ≡ now.size
    → ((r s : ℕ) → Holds new.pairs r s ↔ (Holds now.pairs r s ⊎ ((r ≡ p) × Strict (Holds whole.pairs) r s)))
    → HasStrictBelow whole new (p + 1)
strict_more whole now new p (size, pairs) same added = (
  omega (arith, size, same),
  λ r s. (
    λ h. elim ((added r s).0 h) [
      | inl was ↦ let before = (pairs r s).0 was in let lt = before.0 in (omega arith, before.1)
      | inr here ↦ (omega (arith, here.0), here.1)
    ],
    λ (lt, is). elim (cases_eq r p) [
      | inl e ↦ (added r s).1 (inr (e, is))
      | inr apart ↦ (added r s).1 (inl ((pairs r s).1 (omega arith, is)))
    ],
  ),
)
