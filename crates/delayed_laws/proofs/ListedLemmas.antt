-- Pairs with ranks in their order, and the list that they stand for.
use Rattle.std.proofs.Common.{◌≡◌, ℕ, ◌<◌, inl, inr, Option, None, List, length, Contains, sym, ap, ◌∙◌, subst, arith}
use Rattle.std.proofs.lemmas.Bool.{cases_eq, cases_lt}
use Rattle.std.proofs.lemmas.List.{get_or_default}
use Rattle.auto_core.proofs.MemberLemmas.{map_has, map_from}
use Rattle.delayed_laws.specs.declared.parts.DelayedPair.{DelayedPair}
use Rattle.delayed_laws.specs.Greatest.{HasPairsOnce}
use Rattle.delayed_laws.specs.Listed.{delayed_pair, place_pair, place_pairs, delayed_at, StandsBefore, AreDelayedAscending}

-- ---- the list that they stand for

pub pair_stands : (pairs : List DelayedPair) (x : DelayedPair) → Contains pairs x → Contains (place_pairs pairs) (place_pair x)
pair_stands pairs x there = map_has place_pair pairs x there

pub pair_from : (pairs : List DelayedPair) (p q : ℕ) (o : Option ℕ) → Contains (place_pairs pairs) (p, q, o) → Contains pairs (delayed_pair p q o)
pair_from pairs p q o there =
    let (x, has, is) = map_from place_pair pairs (p, q, o) there in
    let same : x ≡ delayed_pair p q o = ap (λ (y : ℕ × ℕ × Option ℕ). delayed_pair y.0 y.1 y.2) is in
    subst (λ y. Contains pairs y) same has

-- ---- places

pub at_place : (pairs : List DelayedPair) (i : ℕ) → i < length pairs → Contains pairs (delayed_at pairs i)
at_place pairs i within = (i, within, get_or_default pairs i (delayed_at pairs i) (delayed_pair 0 0 None) within)

pub place_has : (pairs : List DelayedPair) (x : DelayedPair) → Contains pairs x → (i : ℕ) × (i < length pairs) × (delayed_at pairs i ≡ x)
place_has pairs x (i, within, is) = (i, within, get_or_default pairs i (delayed_pair 0 0 None) x within ∙ is)

-- ---- the order

pub before_on : (x y : DelayedPair) (p q : ℕ) → StandsBefore x y.left y.right → StandsBefore y p q → StandsBefore x p q
before_on x y p q (inl lt) second = inl (omega arith)
before_on x y p q (inr (same, lt)) (inl less) = inl (omega arith)
before_on x y p q (inr (same, lt)) (inr (equal, less)) = inr (omega arith, omega arith)

pub not_before_itself : (x : DelayedPair) (p q : ℕ) → x.left ≡ p → x.right ≡ q → StandsBefore x p q → ⊥
not_before_itself x p q left right before = omega arith

-- Of two places the pair of the first stands before that of the second, so they are no one pair.
apart : (pairs : List DelayedPair) → AreDelayedAscending pairs → (i j p q : ℕ) (o m : Option ℕ) → i < j → j < length pairs → delayed_at pairs i ≡ delayed_pair p q o → delayed_at pairs j ≡ delayed_pair p q m → ⊥
apart pairs ascending i j p q o m lt within first second =
    let left : (delayed_at pairs i).left ≡ (delayed_at pairs j).left = ap (λ (x : DelayedPair). x.left) first ∙ sym (ap (λ (x : DelayedPair). x.left) second) in
    let right : (delayed_at pairs i).right ≡ (delayed_at pairs j).right = ap (λ (x : DelayedPair). x.right) first ∙ sym (ap (λ (x : DelayedPair). x.right) second) in
    not_before_itself (delayed_at pairs i) (delayed_at pairs j).left (delayed_at pairs j).right left right (ascending i j lt within)

-- So no pair stands there in two ways.
pub ascending_once : (pairs : List DelayedPair) → AreDelayedAscending pairs → HasPairsOnce (place_pairs pairs)
ascending_once pairs ascending p q o m first second =
    let (i, i_in, i_is) = place_has pairs (delayed_pair p q o) (pair_from pairs p q o first) in
    let (j, j_in, j_is) = place_has pairs (delayed_pair p q m) (pair_from pairs p q m second) in
    elim (cases_lt i j) [
      | inl lt ↦ absurd (apart pairs ascending i j p q o m lt j_in i_is j_is)
      | inr from ↦ elim (cases_eq i j) [
        | inl e ↦
            let at : delayed_at pairs i ≡ delayed_at pairs j = ap (λ n. delayed_at pairs n) e in
            ap (λ (x : DelayedPair). x.rank) (sym i_is ∙ at ∙ j_is)
        | inr other ↦ absurd (apart pairs ascending j i p q m o (omega arith) i_in j_is i_is)
      ]
    ]
