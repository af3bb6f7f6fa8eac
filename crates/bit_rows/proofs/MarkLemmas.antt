-- Rows that are marked one after another.
use Rattle.std.proofs.Common.{◌≡◌, ℕ, ◌+◌, ◌<◌, ◌↔◌, inl, inr, true, List, sym, ◌∙◌, subst, arith}
use Rattle.std.proofs.lemmas.Bool.{cases_eq}
use Rattle.auto_core.specs.Rows.{bit_of, HasBit}

-- The row marks just those below n of which P holds; one more is tried.
abbrev pub MarksUpto : (ℕ → Type 0) → List ℕ → ℕ → Type 0
MarksUpto P row n = (k : ℕ) → HasBit row k ↔ ((k < n) × P k)

pub marks_more :
    (P : ℕ → Type 0) (old new : List ℕ) (n : ℕ)
    → MarksUpto P old n
    → P n
    → bit_of new n ≡ true
    → ((i : ℕ) → ¬ (i ≡ n) → bit_of new i ≡ bit_of old i)
    → MarksUpto P new (n + 1)
marks_more P old new n h is here same k = (
  λ bit. elim (cases_eq k n) [
    | inl e ↦ (omega arith, subst P (sym e) is)
    | inr apart ↦ let was = (h k).0 (sym (same k apart) ∙ bit) in let lt = was.0 in (omega arith, was.1)
  ],
  λ both. elim (cases_eq k n) [
    | inl e ↦ subst (λ x. HasBit new x) (sym e) here
    | inr apart ↦ let lt = both.0 in same k apart ∙ (h k).1 (omega arith, both.1)
  ],
)

pub marks_passed : (P : ℕ → Type 0) (row : List ℕ) (n : ℕ) → MarksUpto P row n → (P n → ⊥) → MarksUpto P row (n + 1)
marks_passed P row n h none k = (
  λ bit. let was = (h k).0 bit in let lt = was.0 in (omega arith, was.1),
  λ both. elim (cases_eq k n) [
    | inl e ↦ absurd (none (subst P e both.1))
    | inr apart ↦ let lt = both.0 in (h k).1 (omega arith, both.1)
  ],
)
