-- The first words of two rows settle that the first row is not inside the second.
use Rattle.std.proofs.Common.{◌≡◌, ℕ, ◌<◌, ◌≤◌, ◌^◌, List, [], ◌∷◌, slice_index_or, sym, ◌∙◌, subst, arith, w64}
use Rattle.std.proofs.lemmas.Bool.{false≢true}
use Rattle.std.proofs.lemmas.Nat.{and_le_l}
use Rattle.std.specs.Int.{bit_not}
use Rattle.auto_core.proofs.BitLemmas.{missing, missing_found}
use Rattle.set_rows.specs.Sets.{IsSubset}

less_still : (a b n : ℕ) → b ≤ a → a < n → b < n
less_still a b n le lt = omega arith

none_left : (a b : ℕ) → b ≤ a → a ≡ 0 → b ≡ 0
none_left a b le is = omega arith

pub not_inside :
    (row other : List ℕ) (head below : ℕ) → head < 2 ^ 64 → below < 2 ^ 64 → head ≡ slice_index_or row 0 0 → below ≡ slice_index_or other 0 0 → ¬ (missing head below ≡ 0) → IsSubset row other → ⊥
not_inside [] other head below head_fits below_fits head_is below_is some inside = some (none_left head (missing head below) (and_le_l head (bit_not w64 below)) head_is)
not_inside (x ∷ row) other head below head_fits below_fits head_is below_is some inside =
    let a : ℕ = slice_index_or (x ∷ row) 0 0 in
    let b : ℕ = slice_index_or other 0 0 in
    let a_fits : a < 2 ^ 64 = subst (λ n. n < 2 ^ 64) head_is head_fits in
    let b_fits : b < 2 ^ 64 = subst (λ n. n < 2 ^ 64) below_is below_fits in
    let left : ¬ (missing a b ≡ 0) = subst (λ n. ¬ (missing n b ≡ 0)) head_is (subst (λ n. ¬ (missing head n ≡ 0)) below_is some) in
    let found = missing_found (x ∷ row) other 0 a_fits b_fits (omega arith) (less_still a (missing a b) (2 ^ 64) (and_le_l a (bit_not w64 b)) a_fits) left in
    false≢true (sym found.1 ∙ inside _ found.0)
