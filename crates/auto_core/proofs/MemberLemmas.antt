-- Members of filtered and mapped lists, lists without repeats, and lists that their members determine.
use Rattle.std.proofs.Common.{◌≡◌, ℕ, zero, suc, ◌+◌, ◌<◌, ◌⊎◌, inl, inr, Bool, true, false, cond, List, [], ◌∷◌, length, get_or, map, filter, All, Contains, refl, sym, ap, ◌∙◌, subst, arith, zero-add}
use Rattle.std.specs.List.{AllPairs, range_with_len}
use Rattle.std.specs.List.Sorted.{IsStrictlyIncreasing}
use Rattle.std.proofs.lemmas.Bool.{cases_lt, false≢true}
use Rattle.std.proofs.lemmas.List.{get_or-map, length-map}
use Rattle.std.proofs.lemmas.List.Elements.{All-contains, All-filter, All-contains_itself, filter_passes}
use Rattle.std.proofs.lemmas.List.FromFn.{length-range_with_len, get_or-range_with_len}
use Rattle.auto_core.specs.Automaton.{HasRepeat}
use Rattle.auto_core.proofs.PathLemmas.{Contains-here, Contains-later, Contains-cons_cases, none_in_nil}

-- tests that pass together are the same
pub same_bool : (a b : Bool) → (a ≡ true → b ≡ true) → (b ≡ true → a ≡ true) → a ≡ b
same_bool true b to from = sym (to refl)
same_bool false true to from = from refl
same_bool false false to from = refl

-- ---- filtered and mapped lists

filter_step : {X : Type 0} (p : X → Bool) (y : X) (ys : List X) (x : X) (b : Bool) → p y ≡ b → p x ≡ true → (y ≡ x) ⊎ Contains (filter p ys) x → Contains (cond b (y ∷ filter p ys) (filter p ys)) x
filter_step p y ys x true e is (inl s) = Contains-here y x (filter p ys) s
filter_step p y ys x true e is (inr s) = Contains-later y x (filter p ys) s
filter_step p y ys x false e is (inl s) = absurd (false≢true (sym e ∙ ap p s ∙ is))
filter_step p y ys x false e is (inr s) = s

-- what passes the test stays
pub filter_has : {X : Type 0} (p : X → Bool) (xs : List X) (x : X) → Contains xs x → p x ≡ true → Contains (filter p xs) x
filter_has p [] x h is = absurd (none_in_nil x h)
filter_has p (y ∷ ys) x h is = filter_step p y ys x (p y) refl is (elim (Contains-cons_cases y x ys h) [ inl e ↦ inl e | inr later ↦ inr (filter_has p ys x later is) ])

-- what stays was there and passes the test
pub filter_from : {X : Type 0} (p : X → Bool) (xs : List X) (x : X) → Contains (filter p xs) x → Contains xs x × (p x ≡ true)
filter_from p xs x h = (
  All-contains (Contains xs) (filter p xs) x (All-filter p (Contains xs) xs (All-contains_itself xs)) h,
  All-contains (λ y. p y ≡ true) (filter p xs) x (filter_passes p xs) h,
)

pub map_has : {X Y : Type 0} (f : X → Y) (xs : List X) (x : X) → Contains xs x → Contains (map f xs) (f x)
map_has f [] x h = absurd (none_in_nil x h)
map_has f (y ∷ ys) x h = elim (Contains-cons_cases y x ys h) [
  | inl e ↦ Contains-here (f y) (f x) (map f ys) (ap f e)
  | inr later ↦ Contains-later (f y) (f x) (map f ys) (map_has f ys x later)
]

pub map_from : {X Y : Type 0} (f : X → Y) (xs : List X) (y : Y) → Contains (map f xs) y → (x : X) × Contains xs x × (f x ≡ y)
map_from f [] y h = absurd (none_in_nil y h)
map_from f (x ∷ xs) y h = elim (Contains-cons_cases (f x) y (map f xs) h) [
  | inl e ↦ (x, Contains-here x x xs refl, e)
  | inr later ↦ let (z, there, is) = map_from f xs y later in (z, Contains-later x z xs there, is)
]

-- ---- the numbers below n

pub range_has : (n q : ℕ) → q < n → Contains (range_with_len 0 n) q
range_has n q lt = (q, rw (length-range_with_len 0 n) lt, get_or-range_with_len 0 n q q lt ∙ zero-add q)

pub range_from : (n q : ℕ) → Contains (range_with_len 0 n) q → q < n
range_from n q (k, k_in, at) =
    let len = length-range_with_len 0 n in
    let lt : k < n = omega arith in
    let here = get_or-range_with_len 0 n k q lt in
    omega arith

pub range_rises : (n : ℕ) → IsStrictlyIncreasing (range_with_len 0 n)
range_rises n k k_in =
    let len = length-range_with_len 0 n in
    let lt : k < n = omega arith in
    let next : k + 1 < n = omega arith in
    omega (arith, get_or-range_with_len 0 n k 0 lt, get_or-range_with_len 0 n (k + 1) 0 next)

-- ---- lists without repeats

-- where each element stands before all later ones, none is there twice
pub no_repeat : {X : Type 0} (R : X → X → Type 0) → ((x : X) → R x x → ⊥) → (xs : List X) → AllPairs R xs → HasRepeat xs → ⊥
no_repeat {X} R irreflexive [] up (i, j, differ, i_in, j_in, e) = omega arith
no_repeat {X} R irreflexive (x ∷ xs) up (i, j, differ, i_in, j_in, e) =
    elim (cases_lt i j) [
      | inl lt ↦ clash i j (up i j x lt j_in) (e x)
      | inr le ↦ clash j i (up j i x (omega arith) i_in) (sym (e x))
    ]
  where
    clash : (m n : ℕ) → R (get_or (x ∷ xs) m x) (get_or (x ∷ xs) n x) → get_or (x ∷ xs) m x ≡ get_or (x ∷ xs) n x → ⊥
    clash m n r same = irreflexive (get_or (x ∷ xs) n x) (subst (λ y. R y (get_or (x ∷ xs) n x)) same r)

-- the order is kept by a function that keeps it on the elements
pub pairs_mapped :
    {X Y : Type 0} (R : X → X → Type 0) (S : Y → Y → Type 0) (f : X → Y) (P : X → Type 0)
    → ((x y : X) → P x → P y → R x y → S (f x) (f y))
    → (xs : List X)
    → All P xs
    → AllPairs R xs
    → AllPairs S (map f xs)
pairs_mapped R S f P keeps [] all up i j d lt j_in = absurd (omega arith)
pairs_mapped R S f P keeps (x ∷ xs) all up i j d lt j_in =
    let len = length-map (x ∷ xs) f in
    let j_in' : j < length (x ∷ xs) = omega arith in
    let i_in' : i < length (x ∷ xs) = omega arith in
    rw (get_or-map f (x ∷ xs) i x d i_in', get_or-map f (x ∷ xs) j x d j_in')
    (keeps (get_or (x ∷ xs) i x) (get_or (x ∷ xs) j x) (all i x i_in') (all j x j_in') (up i j x lt j_in'))

-- ---- lists that their members determine

-- each element stands before each later one
abbrev pub Rises : {X : Type 0} → (X → X → Type 0) → List X → Type 0
Rises R [] = Unit {0}
Rises {X} R (x ∷ xs) = ((y : X) → Contains xs y → R x y) × Rises R xs

pub rises_from_pairs : {X : Type 0} (R : X → X → Type 0) (xs : List X) → AllPairs R xs → Rises R xs
rises_from_pairs R [] up = tt
rises_from_pairs R (x ∷ xs) up = (
  λ y (k, k_in, at). subst (λ z. R x z) at (up zero (suc k) y (omega arith) (omega arith)),
  rises_from_pairs R xs (λ i j d lt j_in. up (suc i) (suc j) d (omega arith) (omega arith)),
)

module _ {X : Type 0} (R : X → X → Type 0) (asymmetric : (x y : X) → R x y → R y x → ⊥) where
  heads : (x y : X) (xs ys : List X) → Rises R (x ∷ xs) → Rises R (y ∷ ys) → (x ≡ y) ⊎ Contains ys x → (y ≡ x) ⊎ Contains xs y → x ≡ y
  heads x y xs ys a b (inl e) from = e
  heads x y xs ys a b (inr far) (inl e) = sym e
  heads x y xs ys a b (inr far) (inr near) = absurd (asymmetric x y (a.0 y near) (b.0 x far))

  turned : (x y : X) (xs : List X) → (x ≡ y) ⊎ Contains xs y → (y ≡ x) ⊎ Contains xs y
  turned x y xs (inl e) = inl (sym e)
  turned x y xs (inr h) = inr h

  later : (x y z : X) (xs ys : List X) → x ≡ y → Rises R (x ∷ xs) → Contains xs z → (y ≡ z) ⊎ Contains ys z → Contains ys z
  later x y z xs ys same a h (inl e) = let loop : R z z = subst (λ u. R u z) (same ∙ e) (a.0 z h) in absurd (asymmetric z z loop loop)
  later x y z xs ys same a h (inr there) = there

  -- two lists that rise and have the same members are one
  pub same_members : (xs ys : List X) → Rises R xs → Rises R ys → ((z : X) → Contains xs z → Contains ys z) → ((z : X) → Contains ys z → Contains xs z) → xs ≡ ys
  same_members [] [] a b to from = refl
  same_members [] (y ∷ ys) a b to from = absurd (none_in_nil y (from y (Contains-here y y ys refl)))
  same_members (x ∷ xs) [] a b to from = absurd (none_in_nil x (to x (Contains-here x x xs refl)))
  same_members (x ∷ xs) (y ∷ ys) a b to from =
      let first = heads x y xs ys a b (turned y x ys (Contains-cons_cases y x ys (to x (Contains-here x x xs refl)))) (turned x y xs (Contains-cons_cases x y xs (from y (Contains-here y y ys refl)))) in
      ap (λ z. z ∷ xs) first
      ∙ ap (λ zs. y ∷ zs) (same_members xs ys a.1 b.1
      (λ z h. later x y z xs ys first a h (Contains-cons_cases y z ys (to z (Contains-later x z xs h))))
      (λ z h. later y x z ys xs (sym first) b h (Contains-cons_cases x z xs (from z (Contains-later y z ys h)))))
