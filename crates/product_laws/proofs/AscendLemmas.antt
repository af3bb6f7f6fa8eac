-- Pairs in order.
use Rattle.std.proofs.Common.{◌≡◌, ℕ, zero, suc, ◌+◌, ◌-◌, ◌<◌, ◌≤◌, inl, inr, List, length, get_or, sym, ap, ◌∙◌, subst, arith}
use Rattle.std.proofs.lemmas.Bool.{cases_eq, cases_lt}
use Rattle.std.proofs.lemmas.List.{get_or_default}
use Rattle.product_laws.specs.declared.RankedPair.{RankedPair}
use Rattle.product_laws.specs.Ranked.{HasRank, HasPair}
use Rattle.product_laws.specs.Ascending.{IsBefore, AreAscending, pair_at}

abbrev pub no_pair : RankedPair
no_pair = record { left = 0; right = 0; rank = 0 }

-- The pair stands before the other one.
abbrev IsBeforePair : RankedPair → RankedPair → Type 0
IsBeforePair x y = IsBefore x y.left y.right

pub before_on : (x y : RankedPair) (p q : ℕ) → IsBefore x y.left y.right → IsBefore y p q → IsBefore x p q
before_on x y p q (inl lt) second = inl (omega arith)
before_on x y p q (inr (same, lt)) (inl less) = inl (omega arith)
before_on x y p q (inr (same, lt)) (inr (equal, less)) = inr (omega arith, omega arith)

pub not_before_itself : (x : RankedPair) (p q : ℕ) → x.left ≡ p → x.right ≡ q → IsBefore x p q → ⊥
not_before_itself x p q left right before = omega arith

pub ascending_from_neighbours : (pairs : List RankedPair) → ((k : ℕ) → k + 1 < length pairs → IsBefore (pair_at pairs k) (pair_at pairs (k + 1)).left (pair_at pairs (k + 1)).right) → AreAscending pairs
ascending_from_neighbours pairs next i j lt within = go (j - (i + 1)) i j (omega arith) within
  where
    go : (d i j : ℕ) → j ≡ i + 1 + d → j < length pairs → IsBeforePair (pair_at pairs i) (pair_at pairs j)
    go zero i j e within =
        let same : i + 1 ≡ j = omega arith in
        subst (λ n. IsBeforePair (pair_at pairs i) (pair_at pairs n)) same (next i (omega arith))
    go (suc d) i j e within =
        before_on (pair_at pairs i) (pair_at pairs (i + 1)) (pair_at pairs j).left (pair_at pairs j).right (next i (omega arith)) (go d (i + 1) j (omega arith) within)

-- Neighbours by the place of the second.
pub neighbours_at : (pairs : List RankedPair) (k at : ℕ) → k + 1 ≡ at → IsBefore (get_or pairs (at - 1) no_pair) (get_or pairs at no_pair).left (get_or pairs at no_pair).right → IsBefore (pair_at pairs k) (pair_at pairs (k + 1)).left (pair_at pairs (k + 1)).right
neighbours_at pairs k at e before =
    let back : at - 1 ≡ k = omega arith in
    subst (λ n. IsBeforePair (pair_at pairs k) (pair_at pairs n)) (sym e) (subst (λ n. IsBeforePair (pair_at pairs n) (pair_at pairs at)) back before)

-- All before a place stand before what that stands before.
pub before_place : (pairs : List RankedPair) → AreAscending pairs → (at p q : ℕ) → at < length pairs → IsBefore (pair_at pairs at) p q → (i : ℕ) → i < at + 1 → IsBefore (pair_at pairs i) p q
before_place pairs ascending at p q within before i lt = elim (cases_eq i at) [
  | inl e ↦ subst (λ n. IsBefore (pair_at pairs n) p q) (sym e) before
  | inr apart ↦ before_on (pair_at pairs i) (pair_at pairs at) p q (ascending i at (omega arith) within) before
]

pub behind_place : (pairs : List RankedPair) → AreAscending pairs → (at p q : ℕ) → (IsBefore (pair_at pairs at) p q → ⊥) → (i : ℕ) → at ≤ i → i < length pairs → IsBefore (pair_at pairs i) p q → ⊥
behind_place pairs ascending at p q behind i from within before = elim (cases_eq i at) [
  | inl e ↦ behind (subst (λ n. IsBefore (pair_at pairs n) p q) e before)
  | inr apart ↦ behind (before_on (pair_at pairs at) (pair_at pairs i) p q (ascending at i (omega arith) within) before)
]

-- A pair at a place.
pub rank_at : (pairs : List RankedPair) (at p q : ℕ) → at < length pairs → (pair_at pairs at).left ≡ p → (pair_at pairs at).right ≡ q → HasRank pairs p q (pair_at pairs at).rank
rank_at pairs at p q within left right =
    let x = pair_at pairs at in
    let there : HasRank pairs x.left x.right x.rank = (at, within, get_or_default pairs at x no_pair within) in
    subst (λ s. HasRank pairs p s x.rank) right (subst (λ r. HasRank pairs r x.right x.rank) left there)

-- The place of a pair.
pub place_has : (pairs : List RankedPair) (p q rank : ℕ) → HasRank pairs p q rank → (i : ℕ) × (i < length pairs) × (pair_at pairs i ≡ record { left = p; right = q; rank = rank })
place_has pairs p q rank (i, within, is) = (i, within, get_or_default pairs i no_pair (record { left = p; right = q; rank = rank }) within ∙ is)

module _ (pairs : List RankedPair) (ascending : AreAscending pairs) (at p q : ℕ)
    (before : (i : ℕ) → i < at → IsBefore (pair_at pairs i) p q) where
  -- A pair of p and q stands at the place or behind it.
  from_place : (i : ℕ) → (pair_at pairs i).left ≡ p → (pair_at pairs i).right ≡ q → at ≤ i
  from_place i left right = elim (cases_lt i at) [ inl lt ↦ absurd (not_before_itself (pair_at pairs i) p q left right (before i lt)) | inr from ↦ from ]

  pub rank_is_one : (pair_at pairs at).left ≡ p → (pair_at pairs at).right ≡ q → (rank : ℕ) → HasRank pairs p q rank → rank ≡ (pair_at pairs at).rank
  rank_is_one left right rank there =
      let (i, within, is) = place_has pairs p q rank there in
      let i_left : (pair_at pairs i).left ≡ p = ap (λ (x : RankedPair). x.left) is in
      let i_right : (pair_at pairs i).right ≡ q = ap (λ (x : RankedPair). x.right) is in
      let from = from_place i i_left i_right in
      elim (cases_eq i at) [
        | inl e ↦ sym (ap (λ (x : RankedPair). x.rank) is) ∙ ap (λ n. (pair_at pairs n).rank) e
        | inr apart ↦ absurd (not_before_itself (pair_at pairs at) (pair_at pairs i).left (pair_at pairs i).right (left ∙ sym i_left) (right ∙ sym i_right) (ascending at i (omega arith) within))
      ]

  pub none_past_the_end : at ≡ length pairs → HasPair pairs p q → ⊥
  none_past_the_end ends (rank, there) =
      let (i, within, is) = place_has pairs p q rank there in
      let from = from_place i (ap (λ (x : RankedPair). x.left) is) (ap (λ (x : RankedPair). x.right) is) in
      omega arith

  pub none_there : ((i : ℕ) → at ≤ i → i < length pairs → IsBefore (pair_at pairs i) p q → ⊥) → at < length pairs →
      ((pair_at pairs at).left ≡ p → (pair_at pairs at).right ≡ q → ⊥) → HasPair pairs p q → ⊥
  none_there behind at_in other (rank, there) =
      let (i, within, is) = place_has pairs p q rank there in
      let i_left : (pair_at pairs i).left ≡ p = ap (λ (x : RankedPair). x.left) is in
      let i_right : (pair_at pairs i).right ≡ q = ap (λ (x : RankedPair). x.right) is in
      let from = from_place i i_left i_right in
      elim (cases_eq i at) [
        | inl e ↦ other (subst (λ n. (pair_at pairs n).left ≡ p) e i_left) (subst (λ n. (pair_at pairs n).right ≡ q) e i_right)
        | inr apart ↦
            let ahead : IsBefore (pair_at pairs at) (pair_at pairs i).left (pair_at pairs i).right = ascending at i (omega arith) within in
            behind at (omega arith) at_in (subst (λ s. IsBefore (pair_at pairs at) p s) i_right (subst (λ r. IsBefore (pair_at pairs at) r (pair_at pairs i).right) i_left ahead))
      ]
