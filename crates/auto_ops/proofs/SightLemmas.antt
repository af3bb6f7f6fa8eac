-- Lists without repeats, and the list of things in the order of first sight.
use Rattle.std.proofs.Common.{◌≡◌, ℕ, zero, suc, ◌+◌, ◌<◌, ◌≤◌, ◌⊎◌, inl, inr, Bool, true, false, List, [], ◌∷◌, ◌++◌, length, get_or, take, drop, map, filter, fold, All, Contains, refl, sym, ap, ◌∙◌, subst, arith, if◌then◌else◌, append_assoc, Some}
use Rattle.std.specs.List.{list_any, flat_map, slice_get}
use Rattle.std.specs.List.Sorted.{IsStrictlyIncreasing}
use Rattle.std.proofs.lemmas.Bool.{cases_lt, false≢true, cond-true, cond-false}
use Rattle.std.proofs.lemmas.List.{append-nil, get_or_default}
use Rattle.std.proofs.lemmas.List.Elements.{Contains-get_or, Contains-append_left, Contains-append_right, Contains-push, Contains-push_cases, Contains-append_cases}
use Rattle.std.proofs.lemmas.List.Kept.{AllPairs-from_increasing}
use Rattle.std.proofs.lemmas.List.Folds.{Any-from_list_any, list_any_at}
use Rattle.std.proofs.lemmas.Option.{slice_get-get_or, slice_get_within, get_or_from_slice_get, same_Some}
use Rattle.auto_core.specs.Automaton.{HasRepeat}
use Rattle.auto_core.specs.Outcome.{At}
use Rattle.auto_core.proofs.PathLemmas.{Contains-here, Contains-later, Contains-cons_cases, none_in_nil}
use Rattle.auto_core.proofs.MemberLemmas.{Rises, rises_from_pairs, filter_from, map_from}
use Rattle.ba_format.specs.Sight.{noted, first_seen}

-- ---- lists without repeats

-- the two differ
abbrev pub Differ : {X : Type 0} → X → X → Type 0
Differ x y = x ≡ y → ⊥

pub apart_append : {X : Type 0} (xs ys : List X) → Rises Differ xs → Rises Differ ys → ((x : X) → Contains xs x → Contains ys x → ⊥) → Rises Differ (xs ++ ys)
apart_append [] ys a b none = b
apart_append {X} (x ∷ xs) ys a b none = (
  λ y h. elim (Contains-append_cases xs ys y h) [
    | inl near ↦ a.0 y near
    | inr far ↦ λ e. none y (Contains-here x y xs e) far
  ],
  apart_append xs ys a.1 b (λ z h. none z (Contains-later x z xs h)),
)

pub apart_front : {X : Type 0} (xs ys : List X) → Rises Differ (xs ++ ys) → Rises Differ xs
apart_front [] ys a = tt
apart_front (x ∷ xs) ys a = (λ y h. a.0 y (Contains-append_left xs ys y h), apart_front xs ys a.1)

pub apart_map : {X Y : Type 0} (f : X → Y) (xs : List X) → ((x y : X) → Contains xs x → Contains xs y → f x ≡ f y → x ≡ y) → Rises Differ xs → Rises Differ (map f xs)
apart_map f [] tells a = tt
apart_map f (x ∷ xs) tells a = (
  λ y h e. let (z, there, is) = map_from f xs y h in a.0 z there (tells x z (Contains-here x x xs refl) (Contains-later x z xs there) (e ∙ sym is)),
  apart_map f xs (λ y z y_in z_in. tells y z (Contains-later x y xs y_in) (Contains-later x z xs z_in)) a.1,
)

apart_step : {X : Type 0} (p : X → Bool) (x : X) (xs : List X) (b : Bool) → ((y : X) → Contains xs y → Differ x y) → Rises Differ (filter p xs) → Rises Differ (if b then x ∷ filter p xs else filter p xs)
apart_step p x xs true differs rest = (λ y h. differs y (filter_from p xs y h).0, rest)
apart_step p x xs false differs rest = rest

pub apart_filter : {X : Type 0} (p : X → Bool) (xs : List X) → Rises Differ xs → Rises Differ (filter p xs)
apart_filter p [] a = tt
apart_filter p (x ∷ xs) a = apart_step p x xs (p x) a.0 (apart_filter p xs a.1)

pub flat_from : {X Y : Type 0} (f : X → List Y) (xs : List X) (y : Y) → Contains (flat_map f xs) y → (x : X) × Contains xs x × Contains (f x) y
flat_from f [] y h = absurd (none_in_nil y h)
flat_from f (x ∷ xs) y h = elim (Contains-append_cases (f x) (flat_map f xs) y h) [
  | inl near ↦ (x, Contains-here x x xs refl, near)
  | inr far ↦ let (z, there, is) = flat_from f xs y far in (z, Contains-later x z xs there, is)
]

pub flat_has : {X Y : Type 0} (f : X → List Y) (xs : List X) (x : X) (y : Y) → Contains xs x → Contains (f x) y → Contains (flat_map f xs) y
flat_has f [] x y h there = absurd (none_in_nil x h)
flat_has f (z ∷ xs) x y h there = elim (Contains-cons_cases z x xs h) [
  | inl e ↦ Contains-append_left (f z) (flat_map f xs) y (subst (λ u. Contains (f u) y) (sym e) there)
  | inr later ↦ Contains-append_right (f z) (flat_map f xs) y (flat_has f xs x y later there)
]

pub apart_flat : {X Y : Type 0} (f : X → List Y) (xs : List X) → ((x : X) → Rises Differ (f x)) → ((x z : X) (y : Y) → Contains xs x → Contains xs z → Contains (f x) y → Contains (f z) y → x ≡ z) → Rises Differ xs → Rises Differ (flat_map f xs)
apart_flat f [] each tells a = tt
apart_flat f (x ∷ xs) each tells a = apart_append (f x) (flat_map f xs) (each x)
    (apart_flat f xs each (λ u z y u_in z_in. tells u z y (Contains-later x u xs u_in) (Contains-later x z xs z_in)) a.1)
    (λ y near far. let (z, there, is) = flat_from f xs y far in a.0 z there (tells x z y (Contains-here x x xs refl) (Contains-later x z xs there) near is))

-- nothing stands twice in such a list
pub apart_once : {X : Type 0} (xs : List X) → Rises Differ xs → HasRepeat xs → ⊥
apart_once {X} xs a (i, j, differ, i_in, j_in, e) = elim (cases_lt i j) [
  | inl lt ↦ go xs a i j lt j_in e
  | inr le ↦ go xs a j i (omega arith) i_in (λ d. sym (e d))
]
  where
    go : (ys : List X) → Rises Differ ys → (m n : ℕ) → m < n → n < length ys → ((d : X) → get_or ys m d ≡ get_or ys n d) → ⊥
    go [] b m n lt n_in same = omega arith
    go (y ∷ ys) b m zero lt n_in same = omega arith
    go (y ∷ ys) b zero (suc n) lt n_in same = b.0 (get_or ys n y) (n, omega arith, get_or_default ys n (get_or ys n y) y (omega arith)) (same y)
    go (y ∷ ys) b (suc m) (suc n) lt n_in same = go ys b.1 m n (omega arith) (omega arith) same

-- ---- places

pub at_member : {X : Type 0} (xs : List X) (i : ℕ) (x : X) → At xs i x → Contains xs x
at_member xs i x h = (i, slice_get_within xs i x h, get_or_from_slice_get xs i x x h)

pub place_of : {X : Type 0} (xs : List X) (x : X) → Contains xs x → (i : ℕ) × At xs i x
place_of xs x (i, lt, e) = (i, slice_get-get_or xs i x lt ∙ ap (λ y. Some y) e)

pub at_one : {X : Type 0} (xs : List X) (i : ℕ) (x y : X) → At xs i x → At xs i y → x ≡ y
at_one xs i x y a b = same_Some x y (sym a ∙ b)

-- where nothing stands twice, a thing has one place
pub at_place : {X : Type 0} (xs : List X) (i j : ℕ) (x : X) → Rises Differ xs → At xs i x → At xs j x → i ≡ j
at_place [] i j x a h k = let lt = slice_get_within [] i x h in absurd (omega arith)
at_place (y ∷ xs) zero zero x a h k = refl
at_place (y ∷ xs) zero (suc j) x a h k = absurd (a.0 x (at_member xs j x k) (same_Some y x h))
at_place (y ∷ xs) (suc i) zero x a h k = absurd (a.0 x (at_member xs i x h) (same_Some y x k))
at_place (y ∷ xs) (suc i) (suc j) x a h k = ap (λ n. suc n) (at_place xs i j x a.1 h k)

pub at_front : {X : Type 0} (xs ys : List X) (i : ℕ) (x : X) → At xs i x → At (xs ++ ys) i x
at_front [] ys i x h = let lt = slice_get_within [] i x h in absurd (omega arith)
at_front (z ∷ xs) ys zero x h = h
at_front (z ∷ xs) ys (suc i) x h = at_front xs ys i x h

pub fold_append : {X Y : Type 0} (f : Y → X → Y) (z : Y) (xs ys : List X) → fold f z (xs ++ ys) ≡ fold f (fold f z xs) ys
fold_append f z [] ys = refl
fold_append f z (x ∷ xs) ys = fold_append f (f z x) xs ys

pub all_from : {X : Type 0} (P : X → Type 0) (xs : List X) → ((x : X) → Contains xs x → P x) → All P xs
all_from P xs f k d lt = f (get_or xs k d) (Contains-get_or xs k d lt)

-- numbers that increase stand once
pub increasing_apart : (xs : List ℕ) → IsStrictlyIncreasing xs → Rises Differ xs
increasing_apart xs up = rises_from_pairs Differ xs (λ i j d lt j_in e. let r = AllPairs-from_increasing xs up i j d lt j_in in omega arith)

-- what passes the test stands side by side
pub filter_part : {X : Type 0} (p : X → Bool) (d : X) (xs : List X) (b n : ℕ) → b + n ≤ length xs
    → ((i : ℕ) → i < b → p (get_or xs i d) ≡ false)
    → ((i : ℕ) → b ≤ i → i < b + n → p (get_or xs i d) ≡ true)
    → ((i : ℕ) → b + n ≤ i → i < length xs → p (get_or xs i d) ≡ false)
    → filter p xs ≡ take n (drop b xs)
filter_part p d [] zero zero fits before inside after = refl
filter_part p d [] zero (suc n) fits before inside after = absurd (omega arith)
filter_part p d [] (suc b) n fits before inside after = absurd (omega arith)
filter_part p d (x ∷ xs) zero zero fits before inside after =
    cond-false (p x) (x ∷ filter p xs) (filter p xs) (after 0 (omega arith) (omega arith))
    ∙ filter_part p d xs zero zero (omega arith) (λ i lt. absurd (omega arith)) (λ i from lt. absurd (omega arith)) (λ i from lt. after (suc i) (omega arith) (omega arith))
filter_part p d (x ∷ xs) zero (suc n) fits before inside after =
    cond-true (p x) (x ∷ filter p xs) (filter p xs) (inside 0 (omega arith) (omega arith))
    ∙ ap (λ l. x ∷ l) (filter_part p d xs zero n (omega arith) (λ i lt. absurd (omega arith)) (λ i from lt. inside (suc i) (omega arith) (omega arith)) (λ i from lt. after (suc i) (omega arith) (omega arith)))
filter_part p d (x ∷ xs) (suc b) n fits before inside after =
    cond-false (p x) (x ∷ filter p xs) (filter p xs) (before 0 (omega arith))
    ∙ filter_part p d xs b n (omega arith) (λ i lt. before (suc i) (omega arith)) (λ i from lt. inside (suc i) (omega arith) (omega arith)) (λ i from lt. after (suc i) (omega arith) (omega arith))

-- ---- things seen

module _ {X : Type 0} (same : X → X → Bool) where
  pub noted_more : (seen : List X) (x : X) → (rest : List X) × (noted same seen x ≡ seen ++ rest)
  noted_more seen x = by (list_any (same x) seen)
    where
      by : (b : Bool) → (rest : List X) × ((if b then seen else seen ++ x ∷ []) ≡ seen ++ rest)
      by true = ([], sym (append-nil seen))
      by false = (x ∷ [], refl)

  seen_more : (seen xs : List X) → (rest : List X) × (fold (noted same) seen xs ≡ seen ++ rest)
  seen_more seen [] = ([], sym (append-nil seen))
  seen_more seen (x ∷ xs) =
      let (one, e) = noted_more seen x in
      let (two, f) = seen_more (noted same seen x) xs in
      (one ++ two, f ∙ ap (λ l. l ++ two) e ∙ append_assoc seen one two)

  -- with more things behind, what was seen before stays in front
  pub first_more : (xs ys : List X) → (rest : List X) × (first_seen same (xs ++ ys) ≡ first_seen same xs ++ rest)
  first_more xs ys =
      let (rest, e) = seen_more (first_seen same xs) ys in
      (rest, fold_append (noted same) [] xs ys ∙ e)

  -- the first thing is seen first
  pub seen_start : (x : X) (xs : List X) → At (first_seen same (x ∷ xs)) 0 x
  seen_start x xs =
      let (rest, e) = seen_more (x ∷ []) xs in
      ap (λ l. slice_get l 0) e

module _ {X : Type 0} (same : X → X → Bool) (equal : (x y : X) → same x y ≡ true → x ≡ y) (itself : (x : X) → same x x ≡ true) where
  noted_apart : (seen : List X) (x : X) → Rises Differ seen → Rises Differ (noted same seen x)
  noted_apart seen x a = by (list_any (same x) seen) refl
    where
      by : (b : Bool) → list_any (same x) seen ≡ b → Rises Differ (if b then seen else seen ++ x ∷ [])
      by true e = a
      by false e = apart_append seen (x ∷ []) a (λ y h. absurd (none_in_nil y h), tt)
          (λ z near far. elim (Contains-cons_cases x z [] far) [
            | inl is ↦
                let (k, lt, at) = near in
                let hit : list_any (same x) seen ≡ true = list_any_at (same x) seen k z lt (ap (same x) (at ∙ sym is) ∙ itself x) in
                false≢true (sym e ∙ hit)
            | inr none ↦ none_in_nil z none
          ])

  seen_apart : (seen xs : List X) → Rises Differ seen → Rises Differ (fold (noted same) seen xs)
  seen_apart seen [] a = a
  seen_apart seen (x ∷ xs) a = seen_apart (noted same seen x) xs (noted_apart seen x a)

  pub first_apart : (xs : List X) → Rises Differ (first_seen same xs)
  first_apart xs = seen_apart [] xs tt

  noted_from : (seen : List X) (x z : X) → Contains (noted same seen x) z → Contains seen z ⊎ (x ≡ z)
  noted_from seen x z = by (list_any (same x) seen)
    where
      by : (b : Bool) → Contains (if b then seen else seen ++ x ∷ []) z → Contains seen z ⊎ (x ≡ z)
      by true c = inl c
      by false c = Contains-push_cases seen x z c

  noted_keeps : (seen : List X) (x z : X) → Contains seen z → Contains (noted same seen x) z
  noted_keeps seen x z c = let (rest, e) = noted_more same seen x in subst (λ l. Contains l z) (sym e) (Contains-append_left seen rest z c)

  noted_has : (seen : List X) (x : X) → Contains (noted same seen x) x
  noted_has seen x = by (list_any (same x) seen) refl
    where
      by : (b : Bool) → list_any (same x) seen ≡ b → Contains (if b then seen else seen ++ x ∷ []) x
      by true e =
          let (k, y, lt, at, is) = Any-from_list_any (same x) seen e in
          let found : y ≡ x = sym (equal x y is) in
          (k, lt, get_or_default seen k x y lt ∙ at ∙ found)
      by false e = Contains-push seen x

  seen_from : (seen xs : List X) (z : X) → Contains (fold (noted same) seen xs) z → Contains seen z ⊎ Contains xs z
  seen_from seen [] z c = inl c
  seen_from seen (x ∷ xs) z c = elim (seen_from (noted same seen x) xs z c) [
    | inl d ↦ elim (noted_from seen x z d) [ inl k ↦ inl k | inr e ↦ inr (Contains-here x z xs e) ]
    | inr d ↦ inr (Contains-later x z xs d)
  ]

  seen_keeps : (seen xs : List X) (z : X) → Contains seen z → Contains (fold (noted same) seen xs) z
  seen_keeps seen xs z c = let (rest, e) = seen_more same seen xs in subst (λ l. Contains l z) (sym e) (Contains-append_left seen rest z c)

  seen_has : (seen xs : List X) (z : X) → Contains xs z → Contains (fold (noted same) seen xs) z
  seen_has seen [] z c = absurd (none_in_nil z c)
  seen_has seen (x ∷ xs) z c = elim (Contains-cons_cases x z xs c) [
    | inl e ↦ subst (Contains (fold (noted same) (noted same seen x) xs)) e (seen_keeps (noted same seen x) xs x (noted_has seen x))
    | inr d ↦ seen_has (noted same seen x) xs z d
  ]

  -- things seen are the things
  pub first_from : (xs : List X) (z : X) → Contains (first_seen same xs) z → Contains xs z
  first_from xs z c = elim (seen_from [] xs z c) [ inl n ↦ absurd (none_in_nil z n) | inr d ↦ d ]

  pub first_has : (xs : List X) (z : X) → Contains xs z → Contains (first_seen same xs) z
  first_has xs z c = seen_has [] xs z c
