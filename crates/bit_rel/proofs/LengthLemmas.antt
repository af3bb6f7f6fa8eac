-- How long ascending lists of pairs are.
use Rattle.std.proofs.Common.{◌≡◌, ℕ, suc, ◌+◌, ◌*◌, ◌<◌, ◌≤◌, inl, inr, List, [], ◌∷◌, length, Contains, refl, sym, ap, ◌∙◌, subst, arith}
use Rattle.std.proofs.lemmas.Nat.{mul-add-lt}
use Rattle.std.proofs.Math.Nat.{mul-le-mul_right}
use Rattle.auto_core.proofs.PathLemmas.{Contains-here, Contains-later, Contains-cons_cases, none_in_nil}
use Rattle.auto_core.specs.Game.{Holds, IsWithin}
use Rattle.bit_rel.specs.Relation.{Relation, IsRelation, IsPairBefore, ArePairsAscending}

-- An ascending list whose elements are all in another one is no longer.
before_irrefl : (x y : ℕ × ℕ) → IsPairBefore x y → IsPairBefore y x → ⊥
before_irrefl x y h k = omega arith

not_itself : (x y : ℕ × ℕ) → IsPairBefore x y → x ≡ y → ⊥
not_itself x y h e =
    let P : ℕ × ℕ → Type 0 = λ z. IsPairBefore x z in
    let loop : IsPairBefore x x = subst P (sym e) h in
    before_irrefl x x loop loop

-- what is in the longer list and behind its first element
rest_has :
    (x : ℕ × ℕ) (xs ys : List (ℕ × ℕ))
    → ((z : ℕ × ℕ) → Contains ys z → Contains (x ∷ xs) z)
    → ((z : ℕ × ℕ) → Contains ys z → IsPairBefore x z)
    → (z : ℕ × ℕ)
    → Contains ys z
    → Contains xs z
rest_has x xs ys inside before z h = elim (Contains-cons_cases x z xs (inside z h)) [
  | inl e ↦ absurd (not_itself x z (before z h) e)
  | inr later ↦ later
]

before_trans : (x y z : ℕ × ℕ) → IsPairBefore x y → IsPairBefore y z → IsPairBefore x z
before_trans x y z h k = grind arith

-- the first element of the shorter list is behind the first of the longer one, so all are
all_behind :
    (x y : ℕ × ℕ) (xs ys : List (ℕ × ℕ))
    → ArePairsAscending (x ∷ xs)
    → ArePairsAscending (y ∷ ys)
    → Contains xs y
    → (z : ℕ × ℕ)
    → Contains (y ∷ ys) z
    → IsPairBefore x z
all_behind x y xs ys a b later z h =
    let first : IsPairBefore x y = a.0 y later in
    let P : ℕ × ℕ → Type 0 = λ u. IsPairBefore x u in
    elim (Contains-cons_cases y z ys h) [
      | inl e ↦ subst P e first
      | inr behind ↦ before_trans x y z first (b.0 z behind)
    ]

no_longer :
    (xs ys : List (ℕ × ℕ))
    → ArePairsAscending xs
    → ArePairsAscending ys
    → ((z : ℕ × ℕ) → Contains ys z → Contains xs z)
    → length ys ≤ length xs
no_longer xs [] a b inside = omega arith
no_longer [] (y ∷ ys) a b inside = absurd (none_in_nil y (inside y (Contains-here y y ys refl)))
no_longer (x ∷ xs) (y ∷ ys) a b inside = elim (Contains-cons_cases x y xs (inside y (Contains-here y y ys refl))) [
  | inl e ↦
      let P : ℕ × ℕ → Type 0 = λ u. (z : ℕ × ℕ) → Contains ys z → IsPairBefore u z in
      let rest = no_longer xs ys a.1 b.1 (rest_has x xs ys (λ z h. inside z (Contains-later y z ys h)) (subst P (sym e) b.0)) in
      omega arith
  | inr later ↦
      let rest = no_longer xs (y ∷ ys) a.1 b (rest_has x xs (y ∷ ys) inside (all_behind x y xs ys a b later)) in
      omega arith
]

-- it is shorter if it lacks one
shorter :
    (xs ys : List (ℕ × ℕ))
    → ArePairsAscending xs
    → ArePairsAscending ys
    → ((z : ℕ × ℕ) → Contains ys z → Contains xs z)
    → (w : ℕ × ℕ)
    → Contains xs w
    → (Contains ys w → ⊥)
    → length ys < length xs
shorter [] ys a b inside w has lacks = absurd (none_in_nil w has)
shorter (x ∷ xs) [] a b inside w has lacks = omega arith
shorter (x ∷ xs) (y ∷ ys) a b inside w has lacks = elim (Contains-cons_cases x y xs (inside y (Contains-here y y ys refl))) [
  | inl e ↦
      let P : ℕ × ℕ → Type 0 = λ u. (z : ℕ × ℕ) → Contains ys z → IsPairBefore u z in
      let behind : Contains xs w = elim (Contains-cons_cases x w xs has) [ inl f ↦ absurd (lacks (Contains-here y w ys (sym e ∙ f))) | inr later ↦ later ] in
      let rest = shorter xs ys a.1 b.1 (rest_has x xs ys (λ z h. inside z (Contains-later y z ys h)) (subst P (sym e) b.0)) w behind (λ h. lacks (Contains-later y w ys h)) in
      omega arith
  | inr later ↦
      let rest = no_longer xs (y ∷ ys) a.1 b (rest_has x xs (y ∷ ys) inside (all_behind x y xs ys a b later)) in
      omega arith
]

-- The place of a pair in a table of n columns rises with the pair.
abbrev place_of : ℕ → ℕ × ℕ → ℕ
place_of n x = x.0 * n + x.1

place_rises : (n : ℕ) (x y : ℕ × ℕ) → x.1 < n → IsPairBefore x y → place_of n x < place_of n y
place_rises n x y lt (inl less) =
    let rows : suc x.0 * n ≤ y.0 * n = mul-le-mul_right n less in
    let step : suc x.0 * n ≡ n + x.0 * n = suc_times x.0 n in
    omega arith
  where
    suc_times : (a n : ℕ) → suc a * n ≡ n + a * n
    suc_times a n = grind arith
place_rises n x y lt (inr (same, less)) =
    let rows : x.0 * n ≡ y.0 * n = ap (λ a. a * n) same in
    omega arith

few_from : (n bound base : ℕ) (xs : List (ℕ × ℕ)) → base ≤ bound → ArePairsAscending xs → ((x : ℕ × ℕ) → Contains xs x → (base ≤ place_of n x) × (place_of n x < bound) × (x.1 < n)) → base + length xs ≤ bound
few_from n bound base [] upto up all = omega arith
few_from n bound base (x ∷ xs) upto up all =
    let first = all x (Contains-here x x xs refl) in
    let from = first.0 in
    let below = first.1 in
    let rest = few_from n bound (suc (place_of n x)) xs (omega arith) up.1 (λ y h.
    let more = all y (Contains-later x y xs h) in
    let rises = place_rises n x y first.2 (up.0 y h) in
    (omega arith, more.1, more.2)) in
    omega arith

-- a relation on n states has at most n times n pairs
pub pairs_few : (R : Relation) → IsRelation R → length R.pairs ≤ R.size * R.size
pairs_few R valid =
    let few = few_from R.size (R.size * R.size) 0 R.pairs (omega arith) valid.in_order (λ x h.
    let range = valid.in_range x.0 x.1 h in
    (omega arith, mul-add-lt x.0 R.size x.1 R.size range.0 range.1, range.1)) in
    omega arith

-- a relation that lost pairs has no more of them, and fewer if it lost one
pub no_more : (R S : Relation) → IsRelation R → IsRelation S → IsWithin S.pairs R.pairs → length S.pairs ≤ length R.pairs
no_more R S valid after within = no_longer R.pairs S.pairs valid.in_order after.in_order (λ z h. within z.0 z.1 h)

pub fewer : (R S : Relation) (p q : ℕ) → IsRelation R → IsRelation S → IsWithin S.pairs R.pairs → Holds R.pairs p q → (Holds S.pairs p q → ⊥) → length S.pairs < length R.pairs
fewer R S p q valid after within held lost = shorter R.pairs S.pairs valid.in_order after.in_order (λ z h. within z.0 z.1 h) (p, q) held lost
