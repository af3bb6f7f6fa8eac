-- Lists of pairs that tests on pairs give.
use Rattle.std.proofs.Common.{◌≡◌, ℕ, zero, suc, ◌<◌, inl, inr, Bool, true, false, cond, List, [], ◌∷◌, ◌++◌, Contains, refl, sym, ap, ◌∙◌, subst, arith}
use Rattle.std.proofs.lemmas.Bool.{cases_eq}
use Rattle.std.proofs.lemmas.List.Elements.{Contains-append_left, Contains-append_right, Contains-append_cases}
use Rattle.auto_core.proofs.PathLemmas.{Contains-here, Contains-later, Contains-cons_cases, none_in_nil}
use Rattle.auto_core.specs.Game.{Holds}
use Rattle.bit_rel.specs.Relation.{IsRelation, IsPairBefore, ArePairsAscending}
use Rattle.bit_rel.specs.Stored.{pairs_in_row, pairs_below}

pub pair_in : (r s p q : ℕ) → r ≡ p → s ≡ q → Contains {X = ℕ × ℕ} ((r, s) ∷ []) (p, q)
pair_in r s p q e f = Contains-here (r, s) (p, q) [] (ap (λ x. (x, s)) e ∙ ap (λ x. (p, x)) f)

-- what a row holds
row_holds : (cell : ℕ → ℕ → Bool) (r n p q : ℕ) → Contains (pairs_in_row cell r n) (p, q) → (p ≡ r) × (q < n) × (cell p q ≡ true)
row_holds cell r zero p q h = absurd (none_in_nil (p, q) h)
row_holds cell r (suc n) p q h =
    elim (Contains-append_cases (pairs_in_row cell r n) (cond (cell r n) ((r, n) ∷ []) []) (p, q) h) [
      | inl before ↦ let (e, lt, is) = row_holds cell r n p q before in (e, omega arith, is)
      | inr here ↦ last (cell r n) refl here
    ]
  where
    last : (b : Bool) → cell r n ≡ b → Contains {X = ℕ × ℕ} (cond b ((r, n) ∷ []) []) (p, q) → (p ≡ r) × (q < suc n) × (cell p q ≡ true)
    last true is c = elim (Contains-cons_cases (r, n) (p, q) [] c) [
      | inl e ↦
          let left : r ≡ p = ap (λ (x : ℕ × ℕ). x.0) e in
          let right : n ≡ q = ap (λ (x : ℕ × ℕ). x.1) e in
          (sym left, omega arith, ap (λ x. cell x q) (sym left) ∙ ap (λ x. cell r x) (sym right) ∙ is)
      | inr none ↦ absurd (none_in_nil (p, q) none)
    ]
    last false is c = absurd (none_in_nil (p, q) c)

row_has : (cell : ℕ → ℕ → Bool) (p n q : ℕ) → q < n → cell p q ≡ true → Contains (pairs_in_row cell p n) (p, q)
row_has cell p zero q lt is = absurd (omega arith)
row_has cell p (suc n) q lt is =
    elim (cases_eq q n) [
      | inl e ↦
          let here : cell p n ≡ true = subst (λ x. cell p x ≡ true) e is in
          Contains-append_right (pairs_in_row cell p n) (cond (cell p n) ((p, n) ∷ []) []) (p, q)
          (subst (λ b. Contains {X = ℕ × ℕ} (cond b ((p, n) ∷ []) []) (p, q)) (sym here) (pair_in p n p q refl (sym e)))
      | inr apart ↦ Contains-append_left (pairs_in_row cell p n) (cond (cell p n) ((p, n) ∷ []) []) (p, q) (row_has cell p n q (omega arith) is)
    ]

-- what all rows hold
pub pairs_hold : (cell : ℕ → ℕ → Bool) (n m p q : ℕ) → Holds (pairs_below cell n m) p q → (p < m) × (q < n) × (cell p q ≡ true)
pairs_hold cell n zero p q h = absurd (none_in_nil (p, q) h)
pairs_hold cell n (suc m) p q h =
    elim (Contains-append_cases (pairs_below cell n m) (pairs_in_row cell m n) (p, q) h) [
      | inl before ↦ let (lt, right, is) = pairs_hold cell n m p q before in (omega arith, right, is)
      | inr here ↦ let (e, right, is) = row_holds cell m n p q here in (omega arith, right, is)
    ]

pub pairs_have : (cell : ℕ → ℕ → Bool) (n m p q : ℕ) → p < m → q < n → cell p q ≡ true → Holds (pairs_below cell n m) p q
pairs_have cell n zero p q left right is = absurd (omega arith)
pairs_have cell n (suc m) p q left right is =
    elim (cases_eq p m) [
      | inl e ↦
          let here : cell m q ≡ true = subst (λ x. cell x q ≡ true) e is in
          let P : ℕ → Type 0 = λ x. Contains (pairs_in_row cell m n) (x, q) in
          Contains-append_right (pairs_below cell n m) (pairs_in_row cell m n) (p, q) (subst P (sym e) (row_has cell m n q right here))
      | inr apart ↦ Contains-append_left (pairs_below cell n m) (pairs_in_row cell m n) (p, q) (pairs_have cell n m p q (omega arith) right is)
    ]

-- ascending lists one after the other
ascending_join :
    (xs ys : List (ℕ × ℕ))
    → ArePairsAscending xs
    → ArePairsAscending ys
    → ((x y : ℕ × ℕ) → Contains xs x → Contains ys y → IsPairBefore x y)
    → ArePairsAscending (xs ++ ys)
ascending_join [] ys a b between = b
ascending_join (x ∷ xs) ys (first, rest) b between = (
  λ y h.
      elim (Contains-append_cases xs ys y h) [
        | inl near ↦ first y near
        | inr far ↦ between x y (Contains-here x x xs refl) far
      ],
  ascending_join xs ys rest b (λ u v in_xs in_ys. between u v (Contains-later x u xs in_xs) in_ys),
)

row_ascends : (cell : ℕ → ℕ → Bool) (p n : ℕ) → ArePairsAscending (pairs_in_row cell p n)
row_ascends cell p zero = tt
row_ascends cell p (suc n) =
    ascending_join (pairs_in_row cell p n) (cond (cell p n) ((p, n) ∷ []) []) (row_ascends cell p n) (one (cell p n)) (between (cell p n))
  where
    one : (b : Bool) → ArePairsAscending (cond b ((p, n) ∷ []) [])
    one true = (λ y h. absurd (none_in_nil y h), tt)
    one false = tt

    between : (b : Bool) (x y : ℕ × ℕ) → Contains (pairs_in_row cell p n) x → Contains {X = ℕ × ℕ} (cond b ((p, n) ∷ []) []) y → IsPairBefore x y
    between true x y in_row last =
        let (e, lt, is) = row_holds cell p n x.0 x.1 in_row in
        elim (Contains-cons_cases (p, n) y [] last) [
          | inl same ↦
              let left : p ≡ y.0 = ap (λ (z : ℕ × ℕ). z.0) same in
              let right : n ≡ y.1 = ap (λ (z : ℕ × ℕ). z.1) same in
              inr (e ∙ left, omega arith)
          | inr none ↦ absurd (none_in_nil y none)
        ]
    between false x y in_row last = absurd (none_in_nil y last)

pub pairs_ascend : (cell : ℕ → ℕ → Bool) (n m : ℕ) → ArePairsAscending (pairs_below cell n m)
pairs_ascend cell n zero = tt
pairs_ascend cell n (suc m) =
    ascending_join (pairs_below cell n m) (pairs_in_row cell m n) (pairs_ascend cell n m) (row_ascends cell m n) (λ x y h k.
    let left = pairs_hold cell n m x.0 x.1 h in
    let right = row_holds cell m n y.0 y.1 k in
    let lt = left.0 in
    let e = right.0 in
    inl (omega arith))

pub valid_pairs : (cell : ℕ → ℕ → Bool) (n : ℕ) → IsRelation (record { size = n; pairs = pairs_below cell n n })
valid_pairs cell n = record {
  in_range = λ p q h. let (left, right, is) = pairs_hold cell n n p q h in (left, right);
  in_order = pairs_ascend cell n n;
}

-- no pair passes: the list is empty
row_none : (cell : ℕ → ℕ → Bool) (p n : ℕ) → ((q : ℕ) → q < n → cell p q ≡ false) → pairs_in_row cell p n ≡ []
row_none cell p zero none = refl
row_none cell p (suc n) none =
    let before = row_none cell p n (λ q lt. none q (omega arith)) in
    let here = none n (omega arith) in
    rw (before, here) refl

pub pairs_none : (cell : ℕ → ℕ → Bool) (n m : ℕ) → ((p q : ℕ) → p < m → q < n → cell p q ≡ false) → pairs_below cell n m ≡ []
pairs_none cell n zero none = refl
pairs_none cell n (suc m) none =
    let before = pairs_none cell n m (λ p q left right. none p q (omega arith) right) in
    let here = row_none cell m n (λ q right. none m q (omega arith) right) in
    rw (before, here) refl

-- two ascending lists with the same pairs are equal
before_irrefl : (x y : ℕ × ℕ) → IsPairBefore x y → IsPairBefore y x → ⊥
before_irrefl x y h k = omega arith

pub same_pairs :
    (xs ys : List (ℕ × ℕ))
    → ArePairsAscending xs
    → ArePairsAscending ys
    → ((z : ℕ × ℕ) → Contains xs z → Contains ys z)
    → ((z : ℕ × ℕ) → Contains ys z → Contains xs z)
    → xs ≡ ys
same_pairs [] [] a b to from = refl
same_pairs [] (y ∷ ys) a b to from = absurd (none_in_nil y (from y (Contains-here y y ys refl)))
same_pairs (x ∷ xs) [] a b to from = absurd (none_in_nil x (to x (Contains-here x x xs refl)))
same_pairs (x ∷ xs) (y ∷ ys) a b to from =
    ap (λ z. z ∷ xs) heads ∙ ap (λ zs. y ∷ zs) (same_pairs xs ys a.1 b.1 to_rest from_rest)
  where
    heads : x ≡ y
    heads = elim (Contains-cons_cases y x ys (to x (Contains-here x x xs refl))) [
      | inl e ↦ sym e
      | inr far ↦ elim (Contains-cons_cases x y xs (from y (Contains-here y y ys refl))) [
        | inl e ↦ e
        | inr near ↦ absurd (before_irrefl x y (a.0 y near) (b.0 x far))
      ]
    ]

    to_rest : (z : ℕ × ℕ) → Contains xs z → Contains ys z
    to_rest z h = elim (Contains-cons_cases y z ys (to z (Contains-later x z xs h))) [
      | inl e ↦ let first = a.0 z h in absurd (let P : ℕ × ℕ → Type 0 = λ u. IsPairBefore u z in let loop : IsPairBefore z z = subst P (heads ∙ e) first in before_irrefl z z loop loop)
      | inr later ↦ later
    ]

    from_rest : (z : ℕ × ℕ) → Contains ys z → Contains xs z
    from_rest z h = elim (Contains-cons_cases x z xs (from z (Contains-later y z ys h))) [
      | inl e ↦ let first = b.0 z h in absurd (let P : ℕ × ℕ → Type 0 = λ u. IsPairBefore u z in let loop : IsPairBefore z z = subst P (sym heads ∙ e) first in before_irrefl z z loop loop)
      | inr later ↦ later
    ]
