-- Pairs that stand at a place in their order, or nowhere.
use Rattle.std.proofs.Common.{◌≡◌, ℕ, zero, suc, ◌+◌, ◌-◌, ◌<◌, ◌≤◌, ◌↔◌, inl, inr, true, ◌&&◌, ◌==◌, ltb, Option, None, List, length, get_or, Contains, sym, ap, subst, arith}
use Rattle.std.specs.List.Sorted.{IsPartitionedBy}
use Rattle.std.proofs.lemmas.Bool.{cases_eq, cases_lt, or_cases, or_left, or_right, and_parts, and_from, ltb-true, lt-ltb, eqb-true, eq-eqb}
use Rattle.std.proofs.lemmas.List.{get_or_default}
use Rattle.delayed_game.specs.Across.{HoldsPlacePair}
use Rattle.delayed_laws.specs.declared.parts.DelayedPair.{DelayedPair}
use Rattle.delayed_laws.specs.Listed.{delayed_pair, place_pairs, delayed_at, StandsBefore, AreDelayedAscending}
use Rattle.delayed_across.specs.Answered.{IsRankBelow, HoldsBelow}
use Rattle.delayed_across.specs.Listed.{stands_before, IsNumberOf}
use Rattle.delayed_laws.proofs.ListedLemmas.{pair_stands, pair_from, at_place, place_has, before_on, not_before_itself, ascending_once}

-- ---- the test of the order

pub before_from_test : (p q : ℕ) (x : DelayedPair) → stands_before p q x ≡ true → StandsBefore x p q
before_from_test p q x t = elim (or_cases (ltb x.left p) ((x.left == p) && ltb x.right q) t) [
  | inl less ↦ inl (ltb-true x.left p less)
  | inr both ↦ let parts = and_parts (x.left == p) (ltb x.right q) both in inr (eqb-true x.left p parts.0, ltb-true x.right q parts.1)
]

pub test_from_before : (p q : ℕ) (x : DelayedPair) → StandsBefore x p q → stands_before p q x ≡ true
test_from_before p q x (inl less) = or_left (ltb x.left p) ((x.left == p) && ltb x.right q) (lt-ltb x.left p less)
test_from_before p q x (inr (same, less)) = or_right (ltb x.left p) ((x.left == p) && ltb x.right q) (and_from (x.left == p) (ltb x.right q) (eq-eqb x.left p same) (lt-ltb x.right q less))

-- ---- neighbours

-- The pair with this number stands before the next one.
abbrev pub StandsBeforeNext : List DelayedPair → ℕ → Type 0
StandsBeforeNext pairs k = StandsBefore (delayed_at pairs k) (delayed_at pairs (k + 1)).left (delayed_at pairs (k + 1)).right

pub ascending_by_neighbours : (pairs : List DelayedPair) → ((k : ℕ) → k + 1 < length pairs → StandsBeforeNext pairs k) → AreDelayedAscending pairs
ascending_by_neighbours pairs next i j lt within = go (j - (i + 1)) i j (omega arith) within
  where
    go : (d i j : ℕ) → j ≡ i + 1 + d → j < length pairs → StandsBefore (delayed_at pairs i) (delayed_at pairs j).left (delayed_at pairs j).right
    go zero i j e within =
        let same : i + 1 ≡ j = omega arith in
        subst (λ n. StandsBefore (delayed_at pairs i) (delayed_at pairs n).left (delayed_at pairs n).right) same (next i (omega arith))
    go (suc d) i j e within =
        before_on (delayed_at pairs i) (delayed_at pairs (i + 1)) (delayed_at pairs j).left (delayed_at pairs j).right (next i (omega arith)) (go d (i + 1) j (omega arith) within)

-- Neighbours by the number of the second.
pub neighbours_at : (pairs : List DelayedPair) (k at : ℕ) → k + 1 ≡ at → StandsBefore (delayed_at pairs (at - 1)) (delayed_at pairs at).left (delayed_at pairs at).right ↔ StandsBeforeNext pairs k
neighbours_at pairs k at e =
    let back : at - 1 ≡ k = omega arith in (
      λ before. subst (λ n. StandsBefore (delayed_at pairs k) (delayed_at pairs n).left (delayed_at pairs n).right) (sym e)
          (subst (λ n. StandsBefore (delayed_at pairs n) (delayed_at pairs at).left (delayed_at pairs at).right) back before),
      λ before. subst (λ n. StandsBefore (delayed_at pairs n) (delayed_at pairs at).left (delayed_at pairs at).right) (sym back)
          (subst (λ n. StandsBefore (delayed_at pairs k) (delayed_at pairs n).left (delayed_at pairs n).right) e before),
    )

-- ---- places

-- What stands before some pair has all before it stand so too.
before_upto : (pairs : List DelayedPair) → AreDelayedAscending pairs → (p q i j : ℕ) → i ≤ j → j < length pairs → StandsBefore (delayed_at pairs j) p q → StandsBefore (delayed_at pairs i) p q
before_upto pairs ascending p q i j le within before = elim (cases_eq i j) [
  | inl e ↦ subst (λ n. StandsBefore (delayed_at pairs n) p q) (sym e) before
  | inr apart ↦ before_on (delayed_at pairs i) (delayed_at pairs j) p q (ascending i j (omega arith) within) before
]

-- So the test parts the list.
pub test_parts : (pairs : List DelayedPair) → AreDelayedAscending pairs → (p q : ℕ) → IsPartitionedBy (stands_before p q) pairs
test_parts pairs ascending p q i j d le within t =
    let i_is = get_or_default pairs i d (delayed_pair 0 0 None) (omega arith) in
    let j_is = get_or_default pairs j d (delayed_pair 0 0 None) within in
    let later : StandsBefore (delayed_at pairs j) p q = subst (λ (x : DelayedPair). StandsBefore x p q) j_is (before_from_test p q (get_or pairs j d) t) in
    test_from_before p q (get_or pairs i d) (subst (λ (x : DelayedPair). StandsBefore x p q) (sym i_is) (before_upto pairs ascending p q i j le within later))

-- The pair with a number.
rank_there : (pairs : List DelayedPair) (at p q : ℕ) → IsNumberOf pairs p q at → Contains (place_pairs pairs) (p, q, (delayed_at pairs at).rank)
rank_there pairs at p q is =
    let x = delayed_at pairs at in
    subst (λ s. Contains (place_pairs pairs) (p, s, x.rank)) is.right
    (subst (λ r. Contains (place_pairs pairs) (r, x.right, x.rank)) is.left (pair_stands pairs x (at_place pairs at is.within)))

pub number_holds : (pairs : List DelayedPair) (at p q : ℕ) → IsNumberOf pairs p q at → HoldsPlacePair (place_pairs pairs) p q
number_holds pairs at p q is = ((delayed_at pairs at).rank, rank_there pairs at p q is)

pub number_holds_below : (pairs : List DelayedPair) (at p q : ℕ) (bound : Option ℕ) → IsNumberOf pairs p q at → IsRankBelow (delayed_at pairs at).rank bound → HoldsBelow (place_pairs pairs) bound p q
number_holds_below pairs at p q bound is below = ((delayed_at pairs at).rank, rank_there pairs at p q is, below)

pub number_not_below :
    (pairs : List DelayedPair) → AreDelayedAscending pairs → (at p q : ℕ) (bound : Option ℕ) → IsNumberOf pairs p q at → (IsRankBelow (delayed_at pairs at).rank bound → ⊥)
    → HoldsBelow (place_pairs pairs) bound p q → ⊥
number_not_below pairs ascending at p q bound is not (o, there, below) =
    let same = ascending_once pairs ascending p q o (delayed_at pairs at).rank there (rank_there pairs at p q is) in
    not (subst (λ m. IsRankBelow m bound) same below)

-- The place of a pair that is held.
pub held_at : (pairs : List DelayedPair) (p q : ℕ) → HoldsPlacePair (place_pairs pairs) p q → (i : ℕ) × (i < length pairs) × ((delayed_at pairs i).left ≡ p) × ((delayed_at pairs i).right ≡ q)
held_at pairs p q (o, there) =
    let (i, within, is) = place_has pairs (delayed_pair p q o) (pair_from pairs p q o there) in
    (i, within, ap (λ (x : DelayedPair). x.left) is, ap (λ (x : DelayedPair). x.right) is)

module _ (pairs : List DelayedPair) (ascending : AreDelayedAscending pairs) (at p q : ℕ)
    (before : (i : ℕ) → i < at → StandsBefore (delayed_at pairs i) p q) where
  -- A pair of p and q stands at the place or behind it.
  from_place : (i : ℕ) → (delayed_at pairs i).left ≡ p → (delayed_at pairs i).right ≡ q → at ≤ i
  from_place i left right = elim (cases_lt i at) [ inl lt ↦ absurd (not_before_itself (delayed_at pairs i) p q left right (before i lt)) | inr from ↦ from ]

  pub none_past_the_end : at ≡ length pairs → HoldsPlacePair (place_pairs pairs) p q → ⊥
  none_past_the_end ends held =
      let (i, within, left, right) = held_at pairs p q held in
      let from = from_place i left right in
      omega arith

  pub none_there : ((i : ℕ) → at ≤ i → i < length pairs → StandsBefore (delayed_at pairs i) p q → ⊥) → at < length pairs →
      ((delayed_at pairs at).left ≡ p → (delayed_at pairs at).right ≡ q → ⊥) → HoldsPlacePair (place_pairs pairs) p q → ⊥
  none_there behind at_in other held =
      let (i, within, left, right) = held_at pairs p q held in
      let from = from_place i left right in
      elim (cases_eq i at) [
        | inl e ↦ other (subst (λ n. (delayed_at pairs n).left ≡ p) e left) (subst (λ n. (delayed_at pairs n).right ≡ q) e right)
        | inr apart ↦
            let ahead : StandsBefore (delayed_at pairs at) (delayed_at pairs i).left (delayed_at pairs i).right = ascending at i (omega arith) within in
            behind at (omega arith) at_in (subst (λ s. StandsBefore (delayed_at pairs at) p s) right (subst (λ r. StandsBefore (delayed_at pairs at) r (delayed_at pairs i).right) left ahead))
      ]
