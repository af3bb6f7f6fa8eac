-- The pairs with ranks in order.
use Rattle.std.proofs.Common.{◌≡◌, ℕ, ◌+◌, ◌<◌, ◌⊎◌, false, inl, inr, List, length, get_or, Contains, refl, sym, ap, ◌∙◌, subst, arith}
use Rattle.std.specs.List.Sorted.{IsPermutation}
use Rattle.std.specs.Ordering.{is_lt, nat_cmp, ordering_then}
use Rattle.std.proofs.lemmas.Bool.Decides.{nat_tests}
use Rattle.std.proofs.lemmas.List.{get_or_default}
use Rattle.std.proofs.lemmas.List.Elements.{Contains-get_or}
use Rattle.std.proofs.lemmas.List.Sorted.{IsPermutation-sym, Contains-permutation}
use Rattle.auto_core.specs.Automaton.{HasRepeat}
use Rattle.auto_core.proofs.Order.{repeat_back}
use Rattle.product_laws.specs.declared.RankedPair.{RankedPair}
use Rattle.product_laws.specs.Ascending.{IsBefore, AreAscending, pair_at as ranked_at}
use Rattle.product_laws.specs.contracts.RankedPairOrd.TheImpl.{cmp-value}
use Rattle.product_laws.proofs.AscendLemmas.{no_pair, ascending_from_neighbours}
use Rattle.product_search.specs.Found.{pair_at}
use Rattle.product_search.specs.Ranks.{with_rank}
use Rattle.product_search.proofs.FoundLemmas.{same_pair, one_place}

-- Three numbers against three others, one after the other.
not_after : (a b c x y z : ℕ) → is_lt (ordering_then (nat_cmp x a) (ordering_then (nat_cmp y b) (nat_cmp z c))) ≡ false
    → ((a < x) ⊎ ((a ≡ x) × (b < y))) ⊎ ((a ≡ x) × (b ≡ y))
not_after a b c x y z h = grind (arith, nat_tests)

-- The list has these pairs by number.
module _ (pairs : List (ℕ × ℕ)) (ranks : List ℕ) (different : (i j : ℕ) → i < j → j < length pairs → pair_at pairs i ≡ pair_at pairs j → ⊥)
    (raw : List RankedPair) (size : length raw ≡ length pairs) (each : (i : ℕ) → i < length pairs → ranked_at raw i ≡ with_rank pairs ranks i)
    (sorted : List RankedPair) (same : IsPermutation raw sorted) where
  pub all_there : (i : ℕ) → i < length pairs → Contains sorted (with_rank pairs ranks i)
  all_there i lt = Contains-permutation raw sorted (with_rank pairs ranks i) same (subst (λ x. Contains raw x) (each i lt) (Contains-get_or raw i no_pair (omega arith)))

  pub only_those : (x : RankedPair) → Contains sorted x → (i : ℕ) × (i < length pairs) × (x ≡ with_rank pairs ranks i)
  only_those x there =
      let (i, lt, is) = Contains-permutation sorted raw x (IsPermutation-sym raw sorted same) there in
      let below : i < length pairs = omega (arith, lt, size) in
      (i, below, sym (get_or_default raw i no_pair x lt ∙ is) ∙ each i below)

  same_place : (i j : ℕ) → i < length pairs → j < length pairs → with_rank pairs ranks i ≡ with_rank pairs ranks j → i ≡ j
  same_place i j i_in j_in e =
      one_place pairs different i j i_in j_in (same_pair (pair_at pairs i).0 (pair_at pairs i).1 (pair_at pairs j).0 (pair_at pairs j).1 (ap (λ (x : RankedPair). x.left) e) (ap (λ (x : RankedPair). x.right) e))

  no_repeat : HasRepeat raw → ⊥
  no_repeat (i, j, apart, i_in, j_in, e) =
      let i_below : i < length pairs = omega (arith, i_in, size) in
      let j_below : j < length pairs = omega (arith, j_in, size) in
      apart (same_place i j i_below j_below (sym (each i i_below) ∙ e no_pair ∙ each j j_below))

  one_before : (x y : RankedPair) (k : ℕ) → k + 1 < length sorted → ranked_at sorted k ≡ x → ranked_at sorted (k + 1) ≡ y → Contains sorted x → Contains sorted y → is_lt (cmp-value.it y x) ≡ false → IsBefore x y.left y.right
  one_before x y k within is_x is_y x_in y_in up = elim (not_after x.left x.right x.rank y.left y.right y.rank up) [
    | inl before ↦ before
    | inr (left, right) ↦
        let (i, i_in, made) = only_those x x_in in
        let (j, j_in, done) = only_those y y_in in
        let pair : ◌≡◌ {A = ℕ × ℕ} (x.left, x.right) (y.left, y.right) = same_pair x.left x.right y.left y.right left right in
        let here : ◌≡◌ {A = ℕ × ℕ} (pair_at pairs i) (pair_at pairs j) = ap (λ (u : RankedPair). (u.left, u.right)) (sym made) ∙ pair ∙ ap (λ (u : RankedPair). (u.left, u.right)) done in
        let equal : x ≡ y = made ∙ ap (with_rank pairs ranks) (one_place pairs different i j i_in j_in here) ∙ sym done in
        absurd (no_repeat (repeat_back raw sorted same (
          k,
          k + 1,
          λ e. omega (arith, e),
          omega arith,
          within,
          λ d. get_or_default sorted k d no_pair (omega arith) ∙ is_x ∙ equal ∙ sym is_y ∙ sym (get_or_default sorted (k + 1) d no_pair within),
        )))
  ]

  pub ascend : ((k : ℕ) → k + 1 < length sorted → is_lt (cmp-value.it (get_or sorted (k + 1) no_pair) (get_or sorted k no_pair)) ≡ false) → AreAscending sorted
  ascend up = ascending_from_neighbours sorted (λ k within.
      one_before (ranked_at sorted k) (ranked_at sorted (k + 1)) k within refl refl (Contains-get_or sorted k no_pair (omega arith)) (Contains-get_or sorted (k + 1) no_pair within) (up k within))
