-- The transitions out of a state with a letter, found by two searches in the state's range.
use Rattle.std.proofs.Common.{◌≡◌, ℕ, ◌+◌, ◌-◌, ◌<◌, ◌≤◌, inl, inr, List, length, ap, ◌∙◌, arith, get_or, true, false, take, drop, ltb, leb, length-take, length-drop, get_or-take, get_or-drop}
use Rattle.std.specs.List.Sorted.{IsNonDecreasingBy, IsPartitionPoint}
use Rattle.std.proofs.lemmas.Bool.{cases_eq, cases_lt}
use Rattle.std.proofs.lemmas.Bool.Decides.{nat_tests}
use Rattle.std.proofs.lemmas.List.{get_or_default}
use Rattle.auto_core.specs.Automaton.{Automaton, IsAscending, IsBefore, IsOutgoing, IsSuccessors, trans, trans_at}
use Rattle.auto_core.specs.declared.parts.Trans.{Trans}

module _ (A : Automaton) (p b e : ℕ) (out : IsOutgoing A p b e) where
  segment : List Trans
  segment = take (e - b) (drop b A.transitions)

  segment_len : length segment ≡ e - b
  unfolding segment
  segment_len =
      let fits = out.within in
      let order = out.is_range in
      omega (arith, length-take (e - b) (drop b A.transitions), length-drop b A.transitions)

  segment_at : (k : ℕ) (d : Trans) → k < e - b → get_or segment k d ≡ trans_at A (b + k)
  unfolding segment
  segment_at k d k_in =
      let fits = out.within in
      let order = out.is_range in
      get_or-take (e - b) (drop b A.transitions) k d k_in
      ∙ get_or-drop b A.transitions k d
      ∙ get_or_default A.transitions (b + k) d (trans 0 0 0) (omega arith)

upto_label : (t u : Trans) (p : ℕ) → t.source ≡ p → u.source ≡ p → IsBefore t u → t.label ≤ u.label
upto_label t u p at_t at_u before = omega arith

-- along the transitions of one state the labels do not fall
pub labels_rise :
    (A : Automaton) (p b e : ℕ)
    → IsAscending A.transitions
    → IsOutgoing A p b e
    → IsNonDecreasingBy (λ (t : Trans). t.label) (take (e - b) (drop b A.transitions))
unfolding segment
labels_rise A p b e up out i j d i_upto j_in =
    let len = segment_len A p b e out in
    let j_seg : j < e - b = omega arith in
    let i_seg : i < e - b = omega arith in
    let fits = out.within in
    rw (segment_at A p b e out i d i_seg, segment_at A p b e out j d j_seg)
    (elim (cases_eq i j) [
      | inl same ↦ omega (arith, ap (λ k. (trans_at A (b + k)).label) same)
      | inr n ↦
          upto_label
          (trans_at A (b + i))
          (trans_at A (b + j))
          p
          (out.inside (b + i) (omega arith) (omega arith))
          (out.inside (b + j) (omega arith) (omega arith))
          (up (b + i) (b + j) (omega arith) (omega arith))
    ])

test_below : (x a : ℕ) → ltb x a ≡ true → x < a
test_below x a h = grind (arith, nat_tests)

test_not_below : (x a : ℕ) → ltb x a ≡ false → a ≤ x
test_not_below x a h = grind (arith, nat_tests)

test_upto : (x a : ℕ) → leb x a ≡ true → x ≤ a
test_upto x a h = grind (arith, nat_tests)

test_not_upto : (x a : ℕ) → leb x a ≡ false → a < x
test_not_upto x a h = grind (arith, nat_tests)

-- the two places in the state's range, as a range of all transitions
pub successors_from_points :
    (A : Automaton) (p a b e i j : ℕ)
    → IsOutgoing A p b e
    → i ≤ length (take (e - b) (drop b A.transitions))
    → j ≤ length (take (e - b) (drop b A.transitions))
    → IsPartitionPoint (λ (t : Trans). ltb t.label a ≡ true) (λ t. ltb t.label a ≡ false) (take (e - b) (drop b A.transitions)) i
    → IsPartitionPoint (λ (t : Trans). leb t.label a ≡ true) (λ t. leb t.label a ≡ false) (take (e - b) (drop b A.transitions)) j
    → IsSuccessors A p a (b + i) (b + j)
unfolding segment
successors_from_points A p a b e i j out i_in j_in lower upper =
    let len = segment_len A p b e out in
    let order = out.is_range in
    let fits = out.within in
    let label_at : (k : ℕ) → k < e - b → (get_or (take (e - b) (drop b A.transitions)) k (trans 0 0 0)).label ≡ (trans_at A (b + k)).label =
    λ k k_in. ap (λ (t : Trans). t.label) (segment_at A p b e out k (trans 0 0 0) k_in) in
    let below : (k : ℕ) → k < i → (trans_at A (b + k)).label < a =
    λ k k_in. omega (arith, label_at k (omega arith), test_below _ a (lower.0 k (trans 0 0 0) (omega arith) k_in)) in
    let from : (k : ℕ) → i ≤ k → k < e - b → a ≤ (trans_at A (b + k)).label =
    λ k k_from k_in. omega (arith, label_at k k_in, test_not_below _ a (lower.1 k (trans 0 0 0) k_from (omega arith))) in
    let upto : (k : ℕ) → k < j → (trans_at A (b + k)).label ≤ a =
    λ k k_in. omega (arith, label_at k (omega arith), test_upto _ a (upper.0 k (trans 0 0 0) (omega arith) k_in)) in
    let above : (k : ℕ) → j ≤ k → k < e - b → a < (trans_at A (b + k)).label =
    λ k k_from k_in. omega (arith, label_at k k_in, test_not_upto _ a (upper.1 k (trans 0 0 0) k_from (omega arith))) in
    let i_upto_j : i ≤ j =
    elim (cases_lt j i) [
      | inl h ↦ absurd (omega (arith, below j h, above j (omega arith) (omega arith)))
      | inr h ↦ h
    ] in
    let place : (t : ℕ) → b ≤ t → b + (t - b) ≡ t = λ t t_from. omega arith in
    record {
      is_range = omega arith;
      within = omega arith;
      before = λ t t_in.
          elim (cases_lt t b) [
            | inl h ↦ inl (out.before t h)
            | inr h ↦ inr (out.inside t h (omega arith), rw (place t h) at (below (t - b) (omega arith)))
          ];
      inside = λ t t_from t_in.
          let lower_bound = rw (place t (omega arith)) at (from (t - b) (omega arith) (omega arith)) in
          let upper_bound = rw (place t (omega arith)) at (upto (t - b) (omega arith)) in
          (out.inside t (omega arith) (omega arith), omega arith);
      after = λ t t_from t_in.
          elim (cases_lt t e) [
            | inl h ↦ inr (out.inside t (omega arith) h, rw (place t (omega arith)) at (above (t - b) (omega arith) (omega arith)))
            | inr h ↦ inl (out.after t h t_in)
          ];
    }
