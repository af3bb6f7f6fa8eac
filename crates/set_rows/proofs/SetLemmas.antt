-- Sets that are made by going through the states.
use Rattle.std.proofs.Common.{◌≡◌, ℕ, ◌+◌, ◌<◌, ◌≤◌, ◌⊎◌, ◌↔◌, inl, inr, List, sym, subst, arith}
use Rattle.std.proofs.lemmas.Bool.{cases_eq, cases_lt}
use Rattle.auto_core.specs.Rows.{HasBit}
use Rattle.set_rows.specs.Sets.{IsRow, IsSubset, IsBelow, IsCovered}

-- Some state before `upto` is in From, and C leads from it to q.
abbrev pub Through : (ℕ → Type 0) → ℕ → (ℕ → ℕ → Type 0) → ℕ → Type 0
Through From upto C q = (m : ℕ) × (m < upto) × From m × C m q

-- One state more that is in From, and one more that is not.
pub through_more : (From : ℕ → Type 0) (at : ℕ) (C : ℕ → ℕ → Type 0) → From at → (q : ℕ) → Through From (at + 1) C q ↔ (Through From at C q ⊎ C at q)
through_more From at C here q = (
  λ (m, below, j, c). elim (cases_eq m at) [
    | inl e ↦ inr (subst (λ k. C k q) e c)
    | inr n ↦ inl (m, omega arith, j, c)
  ],
  λ h. elim h [
    | inl (m, below, j, c) ↦ (m, omega arith, j, c)
    | inr d ↦ (at, omega arith, here, d)
  ],
)

pub through_over : (From : ℕ → Type 0) (at : ℕ) (C : ℕ → ℕ → Type 0) → (From at → ⊥) → (q : ℕ) → Through From (at + 1) C q ↔ Through From at C q
through_over From at C none q = (
  λ (m, below, j, c). elim (cases_lt m at) [ inl lt ↦ (m, lt, j, c) | inr ge ↦ let same : m ≡ at = omega arith in absurd (none (subst From same j)) ],
  λ (m, below, j, c). (m, omega arith, j, c),
)

-- All states.
pub through_all : (From : ℕ → Type 0) (at : ℕ) (C : ℕ → ℕ → Type 0) → ((k : ℕ) → at ≤ k → From k → ⊥) → (q : ℕ) → Through From at C q ↔ ((m : ℕ) × From m × C m q)
through_all From at C none q = (
  λ (m, below, j, c). (m, j, c),
  λ (m, j, c). elim (cases_lt m at) [ inl h ↦ (m, h, j, c) | inr h ↦ absurd (none m h j) ],
)

-- What is added in two goes.
pub joins_up : (O P Q X Y Z : Type 0) → (P ↔ (O ⊎ X)) → (Q ↔ (P ⊎ Y)) → (Z ↔ (X ⊎ Y)) → Q ↔ (O ⊎ Z)
joins_up O P Q X Y Z first second both = (
  λ q. elim (second.0 q) [
    | inl p ↦ elim (first.0 p) [ inl o ↦ inl o | inr x ↦ inr (both.1 (inl x)) ]
    | inr y ↦ inr (both.1 (inr y))
  ],
  λ h. elim h [
    | inl o ↦ second.1 (inl (first.1 (inl o)))
    | inr z ↦ elim (both.0 z) [ inl x ↦ second.1 (inl (first.1 (inr x))) | inr y ↦ second.1 (inr y) ]
  ],
)

pub same_right : (O Q X Y : Type 0) → (Q ↔ (O ⊎ X)) → (X ↔ Y) → Q ↔ (O ⊎ Y)
same_right O Q X Y is same = (
  λ q. elim (is.0 q) [ inl o ↦ inl o | inr x ↦ inr (same.0 x) ],
  λ h. elim h [ inl o ↦ is.1 (inl o) | inr y ↦ is.1 (inr (same.1 y)) ],
)

-- A test of one state more: the states below `at` that pass it, and all.
pub tested_more : (P : ℕ → Type 0) (old new : List ℕ) (at : ℕ) → P at → ((q : ℕ) → HasBit old q ↔ ((q < at) × P q)) → ((q : ℕ) → HasBit new q ↔ (HasBit old q ⊎ (q ≡ at))) → (q : ℕ) → HasBit new q ↔ ((q < at + 1) × P q)
tested_more P old new at here was is q = (
  λ has. elim ((is q).0 has) [
    | inl before ↦ let b = (was q).0 before in (omega (arith, b.0), b.1)
    | inr same ↦ (omega arith, subst P (sym same) here)
  ],
  λ (below, p). (is q).1 (elim (cases_lt q at) [ inl lt ↦ inl ((was q).1 (lt, p)) | inr ge ↦ inr (omega arith) ]),
)

pub tested_over : (P : ℕ → Type 0) (old : List ℕ) (at : ℕ) → (P at → ⊥) → ((q : ℕ) → HasBit old q ↔ ((q < at) × P q)) → (q : ℕ) → HasBit old q ↔ ((q < at + 1) × P q)
tested_over P old at none was q = (
  λ has. let b = (was q).0 has in (omega (arith, b.0), b.1),
  λ (below, p). (was q).1 (elim (cases_lt q at) [ inl lt ↦ (lt, p) | inr ge ↦ let same : q ≡ at = omega arith in absurd (none (subst P same p)) ]),
)

-- Being inside what is below a set is being covered by it.
pub inside_below : (S : ℕ → ℕ → Type 0) (row out other : List ℕ) → ((q : ℕ) → HasBit out q ↔ IsBelow S row q) → IsSubset other out ↔ IsCovered S other row
inside_below S row out other is = (
  λ inside q has. (is q).0 (inside q has),
  λ covered q has. (is q).1 (covered q has),
)

-- One member more that is covered, and all.
pub covered_more : (S : ℕ → ℕ → Type 0) (row other : List ℕ) (at : ℕ) → ((q : ℕ) → q < at → HasBit row q → IsBelow S other q) → (HasBit row at → IsBelow S other at) → (q : ℕ) → q < at + 1 → HasBit row q → IsBelow S other q
covered_more S row other at before here q lt has = elim (cases_lt q at) [
  | inl less ↦ before q less has
  | inr more ↦ let same : q ≡ at = omega arith in subst (IsBelow S other) (sym same) (here (subst (HasBit row) same has))
]

pub covered_all : (S : ℕ → ℕ → Type 0) (n : ℕ) (row other : List ℕ) (at : ℕ) → IsRow n row → n ≤ at → ((q : ℕ) → q < at → HasBit row q → IsBelow S other q) → IsCovered S row other
covered_all S n row other at is enough before q has = let lt = is.below q has in before q (omega arith) has
