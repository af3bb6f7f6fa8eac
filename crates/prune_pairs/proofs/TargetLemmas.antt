-- The transition with given parts, found by a search in the range of the successors, in which the targets ascend.
use Rattle.std.proofs.Common.{◌≡◌, ℕ, ◌+◌, ◌-◌, ◌<◌, ◌≤◌, inl, inr, length, ap, ◌∙◌, arith, get_or, true, false, take, drop, ltb, length-take, length-drop, get_or-take, get_or-drop}
use Rattle.std.specs.List.Sorted.{IsNonDecreasingBy, IsPartitionPoint}
use Rattle.std.proofs.lemmas.Bool.{cases_eq, cases_lt}
use Rattle.std.proofs.lemmas.Bool.Decides.{nat_tests}
use Rattle.std.proofs.lemmas.List.{get_or_default}
use Rattle.auto_core.specs.Automaton.{Automaton, IsAscending, IsBefore, IsSuccessors, trans, trans_at}
use Rattle.auto_core.specs.declared.parts.Trans.{Trans}
use Rattle.prune_pairs.specs.Least.{HasNoTransition, AreSuccessorsFrom}
use Rattle.prune_pairs.proofs.FindLemmas.{in_successors}

rising : (t u : Trans) (p a : ℕ) → (t.source ≡ p) × (t.label ≡ a) → (u.source ≡ p) × (u.label ≡ a) → IsBefore t u → t.target < u.target
rising t u p a at_t at_u before = let e = at_t.0 in let f = at_t.1 in let g = at_u.0 in let h = at_u.1 in omega arith

module _ (A : Automaton) (p a b e : ℕ) (up : IsAscending A.transitions) (s : IsSuccessors A p a b e) where
  segment_len : length (take (e - b) (drop b A.transitions)) ≡ e - b
  segment_len =
      let fits = s.within in
      let order = s.is_range in
      omega (arith, length-take (e - b) (drop b A.transitions), length-drop b A.transitions)

  segment_at : (k : ℕ) (d : Trans) → k < e - b → get_or (take (e - b) (drop b A.transitions)) k d ≡ trans_at A (b + k)
  segment_at k d k_in =
      let fits = s.within in
      let order = s.is_range in
      get_or-take (e - b) (drop b A.transitions) k d k_in
      ∙ get_or-drop b A.transitions k d
      ∙ get_or_default A.transitions (b + k) d (trans 0 0 0) (omega arith)

  targets_order : (u v : ℕ) → b ≤ u → u < v → v < e → (trans_at A u).target < (trans_at A v).target
  targets_order u v from less upto =
      let fits = s.within in
      rising (trans_at A u) (trans_at A v) p a (s.inside u from (omega arith)) (s.inside v (omega arith) upto) (up u v less (omega arith))

  pub targets_rise : IsNonDecreasingBy (λ (t : Trans). t.target) (take (e - b) (drop b A.transitions))
  targets_rise i j d i_upto j_in =
      let len = segment_len in
      let j_seg : j < e - b = omega arith in
      let i_seg : i < e - b = omega arith in
      rw (segment_at i d i_seg, segment_at j d j_seg)
      (elim (cases_eq i j) [
        | inl same ↦ omega (arith, ap (λ k. (trans_at A (b + k)).target) same)
        | inr n ↦ let less = targets_order (b + i) (b + j) (omega arith) (omega arith) (omega arith) in omega arith
      ])

  test_below : (x y : ℕ) → ltb x y ≡ true → x < y
  test_below x y h = grind (arith, nat_tests)

  test_not_below : (x y : ℕ) → ltb x y ≡ false → y ≤ x
  test_not_below x y h = grind (arith, nat_tests)

  -- the range begins where the targets are no longer below q
  pub range_from : (q i : ℕ) → i ≤ length (take (e - b) (drop b A.transitions))
      → IsPartitionPoint (λ (t : Trans). ltb t.target q ≡ true) (λ t. ltb t.target q ≡ false) (take (e - b) (drop b A.transitions)) i
      → AreSuccessorsFrom A p a q (b + i) e
  range_from q i i_in point =
      let len = segment_len in
      let order = s.is_range in
      let fits = s.within in
      let target_at : (k : ℕ) → k < e - b → (get_or (take (e - b) (drop b A.transitions)) k (trans 0 0 0)).target ≡ (trans_at A (b + k)).target =
      λ k k_in. ap (λ (t : Trans). t.target) (segment_at k (trans 0 0 0) k_in) in
      let below : (k : ℕ) → k < i → (trans_at A (b + k)).target < q =
      λ k k_in. omega (arith, target_at k (omega arith), test_below _ q (point.0 k (trans 0 0 0) (omega arith) k_in)) in
      let above : (k : ℕ) → i ≤ k → k < e - b → q ≤ (trans_at A (b + k)).target =
      λ k k_from k_in. omega (arith, target_at k k_in, test_not_below _ q (point.1 k (trans 0 0 0) k_from (omega arith))) in
      let place : (v : ℕ) → b ≤ v → b + (v - b) ≡ v = λ v from. omega arith in
      record {
        is_range = omega arith;
        within = omega arith;
        inside = λ v from v_in.
            let ends = s.inside v (omega arith) v_in in
            let more : q ≤ (trans_at A v).target = rw (place v (omega arith)) at (above (v - b) (omega arith) (omega arith)) in
            (ends.0, ends.1, more);
        all = λ v v_in source label more.
            let near = in_successors A p a b e s v v_in source label in
            let less : v < b + i → (trans_at A v).target < q = λ lt. rw (place v near.0) at (below (v - b) (omega (arith, near.0))) in
            (elim (cases_lt v (b + i)) [ inl lt ↦ let low = less lt in absurd (omega arith) | inr le ↦ le ], near.1);
      }

module _ (A : Automaton) (p a q b e : ℕ) (s : AreSuccessorsFrom A p a q b e) where
  pub none_in_empty : b ≡ e → HasNoTransition A p a q
  none_in_empty is u h =
      let target = h.target in
      let near = s.all u h.is h.source h.label (omega arith) in
      omega (arith, near.0, near.1)

  pub none_past_other : IsAscending A.transitions → b < e → ¬ ((trans_at A b).target ≡ q) → HasNoTransition A p a q
  none_past_other up some other u h =
      let target = h.target in
      let near = s.all u h.is h.source h.label (omega arith) in
      let first = s.inside b (omega arith) some in
      elim (cases_eq b u) [
        | inl same ↦ let is : (trans_at A b).target ≡ (trans_at A u).target = ap (λ k. (trans_at A k).target) same in other (omega arith)
        | inr n ↦
            let least = first.2 in
            let less = rising (trans_at A b) (trans_at A u) p a (first.0, first.1) (h.source, h.label) (up b u (omega (arith, near.0)) h.is) in
            absurd (other (omega arith))
      ]
