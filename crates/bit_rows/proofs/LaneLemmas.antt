-- Lanes of four words without a bit.
use Rattle.std.proofs.Common.{◌≡◌, ℕ, ◌+◌, ◌-◌, ◌<◌, ◌≤◌, List, [], ◌∷◌, map, length, get_or, sym, ap, ap₂, ◌∙◌, subst, arith, bit_and, bit_or, w64}
use Rattle.std.specs.Int.{bit_not}
use Rattle.std.specs.Simd.Lanes.{zip2, chunk, fold_l, Each1}
use Rattle.std.proofs.lemmas.List.{get_or-map, length-map}
use Rattle.std.proofs.lemmas.Nat.{le_or_l, le_or_r}
use Rattle.std.proofs.lemmas.Simd.{length-chunk, get_or-chunk, get_or-zip2, length-zip2, Each1-get_or}

-- Words whose 'or' is zero are zero.
pub none_of_fold : (a : ℕ) (xs : List ℕ) → fold_l bit_or a xs ≡ 0 → (a ≡ 0) × Each1 (λ x. x ≡ 0) xs
none_of_fold a [] e = (e, tt)
none_of_fold a (x ∷ xs) e =
    let rest = none_of_fold (bit_or a x) xs e in
    let left = le_or_l a x in
    let right = le_or_r a x in
    (omega (arith, rest.0), (omega (arith, rest.0), rest.1))

-- What four words of two rows have in common is nothing: so it is for each of the four.
none_in_lanes : (xs ys : List ℕ) → length xs ≡ 4 → length ys ≡ 4 → fold_l bit_or 0 (zip2 bit_and xs ys) ≡ 0 → (j : ℕ) → j < 4 → bit_and (get_or xs j 0) (get_or ys j 0) ≡ 0
none_in_lanes xs ys xs_len ys_len e j j_in =
    let zip_len = length-zip2 bit_and xs ys (omega (arith, xs_len, ys_len)) in
    let none = Each1-get_or (λ x. x ≡ 0) (zip2 bit_and xs ys) j 0 (omega (arith, zip_len, xs_len)) (none_of_fold 0 (zip2 bit_and xs ys) e).1 in
    sym (get_or-zip2 bit_and xs ys j 0 0 0 (omega (arith, xs_len)) (omega (arith, ys_len))) ∙ none

module _ (at : ℕ) (row other : List ℕ) (row_in : at + 4 ≤ length row) (other_in : at + 4 ≤ length other) where
  pub none_lacking :
      fold_l bit_or 0 (zip2 bit_and (chunk at 4 row) (map (bit_not w64) (chunk at 4 other))) ≡ 0
      → (k : ℕ)
      → at ≤ k
      → k < at + 4
      → bit_and (get_or row k 0) (bit_not w64 (get_or other k 0)) ≡ 0
  none_lacking e k k_from k_to =
      let j : ℕ = k - at in
      let j_in : j < 4 = omega arith in
      let is : at + j ≡ k = omega arith in
      let ys : List ℕ = chunk at 4 other in
      let ys_len : length ys ≡ 4 = length-chunk at 4 other other_in in
      subst (λ m. bit_and (get_or row m 0) (bit_not w64 (get_or other m 0)) ≡ 0) is
      (ap₂ bit_and (sym (get_or-chunk at 4 row j 0 j_in)) (ap (bit_not w64) (sym (get_or-chunk at 4 other j 0 j_in)) ∙ sym (get_or-map (bit_not w64) ys j 0 0 (omega (arith, ys_len))))
      ∙ none_in_lanes (chunk at 4 row) (map (bit_not w64) ys) (length-chunk at 4 row row_in) (length-map ys (bit_not w64) ∙ ys_len) e j j_in)
