-- Words that are the same, by lanes of four.
use Rattle.std.proofs.Common.{◌≡◌, ℕ, ◌+◌, ◌-◌, ◌%◌, ◌<◌, ◌≤◌, List, length, get_or, sym, ap, ◌∙◌, subst, arith, bit_or}
use Rattle.std.specs.Int.{bit_at}
use Rattle.std.specs.Int.Bits.{bit_xor}
use Rattle.std.specs.Simd.Lanes.{zip2, chunk, fold_l}
use Rattle.std.proofs.lemmas.Nat.Bits.{bit_at-lt, bit_at-zero, bit_at_xor, same_from_bits}
use Rattle.std.proofs.lemmas.Simd.{length-chunk, get_or-chunk, get_or-zip2, length-zip2, Each1-get_or}
use Rattle.bit_rows.proofs.LaneLemmas.{none_of_fold}

even_is_same : (a b : ℕ) → a < 2 → b < 2 → (a + b) % 2 ≡ 0 → a ≡ b
even_is_same a b a_bit b_bit h = omega arith

-- Numbers that differ in no bit are the same.
none_differing : (x y : ℕ) → bit_xor x y ≡ 0 → x ≡ y
none_differing x y e =
    same_from_bits x y
    (λ i. even_is_same (bit_at x i) (bit_at y i) (bit_at-lt x i) (bit_at-lt y i) (sym (bit_at_xor x y i) ∙ ap (λ n. bit_at n i) e ∙ bit_at-zero i))

module _ (at : ℕ) (row other : List ℕ) (row_in : at + 4 ≤ length row) (other_in : at + 4 ≤ length other) where
  -- Four words that differ in no bit are the same.
  pub lanes_equal :
      fold_l bit_or 0 (zip2 bit_xor (chunk at 4 row) (chunk at 4 other)) ≡ 0
      → (k : ℕ)
      → at ≤ k
      → k < at + 4
      → get_or row k 0 ≡ get_or other k 0
  lanes_equal e k k_from k_to =
      let j : ℕ = k - at in
      let j_in : j < 4 = omega arith in
      let is : at + j ≡ k = omega arith in
      let xs : List ℕ = chunk at 4 row in
      let ys : List ℕ = chunk at 4 other in
      let xs_len : length xs ≡ 4 = length-chunk at 4 row row_in in
      let ys_len : length ys ≡ 4 = length-chunk at 4 other other_in in
      let zip_len = length-zip2 bit_xor xs ys (omega (arith, xs_len, ys_len)) in
      let none = Each1-get_or (λ x. x ≡ 0) (zip2 bit_xor xs ys) j 0 (omega (arith, zip_len, xs_len)) (none_of_fold 0 (zip2 bit_xor xs ys) e).1 in
      let same = none_differing (get_or xs j 0) (get_or ys j 0) (sym (get_or-zip2 bit_xor xs ys j 0 0 0 (omega (arith, xs_len)) (omega (arith, ys_len))) ∙ none) in
      subst (λ m. get_or row m 0 ≡ get_or other m 0) is (sym (get_or-chunk at 4 row j 0 j_in) ∙ same ∙ get_or-chunk at 4 other j 0 j_in)
