-- Words read by lanes of four, joined and written back.
use Rattle.std.proofs.Common.{◌≡◌, ℕ, ◌+◌, ◌-◌, ◌<◌, ◌≤◌, inl, inr, List, length, get_or, sym, ap, ap₂, ◌∙◌, subst, arith, bit_or}
use Rattle.std.specs.Simd.Lanes.{zip2, chunk, put_chunk}
use Rattle.std.proofs.lemmas.Bool.{cases_lt}
use Rattle.std.proofs.lemmas.Simd.{length-chunk, get_or-chunk, get_or-put_chunk_below, get_or-put_chunk_at, get_or-put_chunk_above, get_or-zip2, length-zip2}

module _ (at : ℕ) (into from : List ℕ) (into_in : at + 4 ≤ length into) (from_in : at + 4 ≤ length from) where
  lanes : List ℕ
  lanes = zip2 bit_or (chunk at 4 into) (chunk at 4 from)

  lanes_len : length lanes ≡ 4
  unfolding lanes
  lanes_len = length-zip2 bit_or (chunk at 4 into) (chunk at 4 from) (length-chunk at 4 into into_in ∙ sym (length-chunk at 4 from from_in)) ∙ length-chunk at 4 into into_in

  lane_is : (j : ℕ) → j < 4 → get_or lanes j 0 ≡ bit_or (get_or into (at + j) 0) (get_or from (at + j) 0)
  unfolding lanes
  lane_is j j_in =
      get_or-zip2 bit_or (chunk at 4 into) (chunk at 4 from) j 0 0 0 (omega (arith, length-chunk at 4 into into_in)) (omega (arith, length-chunk at 4 from from_in))
      ∙ ap₂ bit_or (get_or-chunk at 4 into j 0 j_in) (get_or-chunk at 4 from j 0 j_in)

  stored : (k : ℕ) → at ≤ k → k < at + 4 → get_or (put_chunk at into lanes) k 0 ≡ bit_or (get_or into k 0) (get_or from k 0)
  stored k k_from k_to =
      let j : ℕ = k - at in
      let is : at + j ≡ k = omega arith in
      subst (λ m. get_or (put_chunk at into lanes) m 0 ≡ bit_or (get_or into m 0) (get_or from m 0)) is
      (get_or-put_chunk_at at into lanes j 0 (omega (arith, lanes_len)) (omega (arith, lanes_len)) ∙ lane_is j (omega arith))

  pub lanes_ored :
      (old : List ℕ)
      → ((k : ℕ) → k < at → get_or into k 0 ≡ bit_or (get_or old k 0) (get_or from k 0))
      → ((k : ℕ) → at ≤ k → get_or into k 0 ≡ get_or old k 0)
      → (k : ℕ)
      → k < at + 4
      → get_or (put_chunk at into (zip2 bit_or (chunk at 4 into) (chunk at 4 from))) k 0 ≡ bit_or (get_or old k 0) (get_or from k 0)
  unfolding lanes
  lanes_ored old first rest k k_to =
      elim (cases_lt k at) [
        | inl near ↦ get_or-put_chunk_below at into lanes k 0 near ∙ first k near
        | inr far ↦ stored k (omega arith) k_to ∙ ap (λ a. bit_or a (get_or from k 0)) (rest k (omega arith))
      ]

  pub lanes_left :
      (old : List ℕ)
      → ((k : ℕ) → at ≤ k → get_or into k 0 ≡ get_or old k 0)
      → (k : ℕ)
      → at + 4 ≤ k
      → get_or (put_chunk at into (zip2 bit_or (chunk at 4 into) (chunk at 4 from))) k 0 ≡ get_or old k 0
  unfolding lanes
  lanes_left old rest k k_from = get_or-put_chunk_above at into lanes k 0 (omega (arith, lanes_len)) ∙ rest k (omega arith)
