-- Rows with a bit in common.
use Rattle.std.proofs.Common.{◌≡◌, ℕ, ◌+◌, ◌*◌, ◌/◌, ◌%◌, ◌^◌, ◌<◌, inl, inr, ◌==◌, List, length, get_or, sym, ap, ◌∙◌, arith, min, bit_and, w64}
use Rattle.std.specs.Int.{bit_at, trailing_zeros}
use Rattle.std.proofs.lemmas.Bool.{cases_lt, eqb-true, false≢true}
use Rattle.std.proofs.lemmas.Nat.Bits.{bit_at_and, bit_at-lt, bit_at-zero, bit_at-trailing_zeros}
use Rattle.auto_core.specs.Rows.{HasBit, bit_of}
use Rattle.auto_core.proofs.BitLemmas.{bit_past}

both_ones : (a b : ℕ) → a < 2 → b < 2 → min a b ≡ 1 → (a ≡ 1) × (b ≡ 1)
both_ones a b a_bit b_bit h = omega arith

not_both : (a b : ℕ) → min a b ≡ 0 → a ≡ 1 → b ≡ 1 → ⊥
not_both a b h e f = omega arith

-- The bit of a row at a place in the word `at`.
bit_in_word : (row : List ℕ) (at t i : ℕ) → i / 64 ≡ at → i % 64 ≡ t → bit_of row i ≡ (bit_at (get_or row at 0) t == 1)
bit_in_word row at t i p q = ap (λ k. bit_at (get_or row k 0) (i % 64) == 1) p ∙ ap (λ k. bit_at (get_or row at 0) k == 1) q

pub meet_found :
    (row other : List ℕ) (i : ℕ)
    → bit_and (get_or row i 0) (get_or other i 0) < 2 ^ 64
    → ¬ (bit_and (get_or row i 0) (get_or other i 0) ≡ 0)
    → (q : ℕ) × HasBit row q × HasBit other q
meet_found row other i fits some =
    let a : ℕ = get_or row i 0 in
    let b : ℕ = get_or other i 0 in
    let word : ℕ = bit_and a b in
    let positive : 0 < word = omega arith in
    let lowest = bit_at-trailing_zeros w64 word positive fits in
    let t : ℕ = trailing_zeros w64 word in
    let t_in : t < 64 = lowest.0 in
    let ones = both_ones (bit_at a t) (bit_at b t) (bit_at-lt a t) (bit_at-lt b t) (sym (bit_at_and a b t) ∙ lowest.1) in
    let at : (i * 64 + t) / 64 ≡ i = omega arith in
    let bit : (i * 64 + t) % 64 ≡ t = omega arith in (
      i * 64 + t,
      bit_in_word row i t (i * 64 + t) at bit ∙ ap (λ n. n == 1) ones.0,
      bit_in_word other i t (i * 64 + t) at bit ∙ ap (λ n. n == 1) ones.1,
    )

pub none_meet :
    (row other : List ℕ)
    → ((k : ℕ) → k < length row → bit_and (get_or row k 0) (get_or other k 0) ≡ 0)
    → (q : ℕ)
    → HasBit row q
    → HasBit other q
    → ⊥
none_meet row other none q first second =
    elim (cases_lt (q / 64) (length row)) [
      | inl near ↦
          let a : ℕ = get_or row (q / 64) 0 in
          let b : ℕ = get_or other (q / 64) 0 in
          let t : ℕ = q % 64 in
          let nothing : min (bit_at a t) (bit_at b t) ≡ 0 = sym (bit_at_and a b t) ∙ ap (λ n. bit_at n t) (none (q / 64) near) ∙ bit_at-zero t in
          not_both (bit_at a t) (bit_at b t) nothing (eqb-true (bit_at a t) 1 first) (eqb-true (bit_at b t) 1 second)
      | inr far ↦ false≢true (sym (bit_past row q far) ∙ first)
    ]
