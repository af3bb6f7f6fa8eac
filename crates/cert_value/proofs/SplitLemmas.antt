use Rattle.std.proofs.Common.{◌≡◌, ℕ, zero, suc, ◌≤◌, ◌+◌, ◌-◌, List, [], ◌∷◌, length, take, drop, Bool, Some, None, position, arith, ap, refl, ◌∙◌, take_all, ⊎_elim, lt-ltb, le-ltb, length-drop}
use Rattle.std.specs.List.{slice_split, position_or_len, onto_first}
use Rattle.std.proofs.lemmas.List.Splits.{slice_split_first, slice_split-cons_no}
use Rattle.std.proofs.lemmas.Bool.{cases_Bool, cases_lt}

none_from_len : (p : ℕ → Bool) (xs : List ℕ) → length xs ≤ position_or_len p xs → slice_split p xs ≡ xs ∷ []
none_from_len p [] h = refl
none_from_len p (x ∷ xs) h =
    ⊎_elim (λ t. let g = rw t at h in absurd (omega arith))
    (λ f. let g = rw f at h in
    let k : length xs ≤ position_or_len p xs = omega arith in
    slice_split-cons_no p x xs f ∙ ap (λ parts. onto_first x parts) (none_from_len p xs k))
    (cases_Bool (p x))

-- a list without the byte is one part
pub split_none : (p : ℕ → Bool) (xs : List ℕ) → position p xs ≡ None → slice_split p xs ≡ xs ∷ []
split_none p xs e =
    ⊎_elim (λ lt. let f = rw (lt-ltb (position_or_len p xs) (length xs) lt) at e in absurd (cc))
    (none_from_len p xs)
    (cases_lt (position_or_len p xs) (length xs))

-- a list with the byte is what stands before it, and the parts of what stands after it
pub split_some :
    (p : ℕ → Bool) (xs : List ℕ) (at : ℕ)
    → position p xs ≡ Some at
    → slice_split p xs ≡ take at xs ∷ slice_split p (drop (at + 1) xs)
split_some p xs at e =
    ⊎_elim
    (λ lt. let f = rw (lt-ltb (position_or_len p xs) (length xs) lt) at e in
    let g : position_or_len p xs ≡ at = cc in
    slice_split_first p xs 0 lt ∙ ap (λ n. take n xs ∷ slice_split p (drop (n + 1) xs)) g)
    (λ le. let f = rw (le-ltb (position_or_len p xs) (length xs) le) at e in absurd (cc))
    (cases_lt (position_or_len p xs) (length xs))

-- all that is left of a list from an index on
pub rest_all : (xs : List ℕ) (n : ℕ) → take (length xs - n) (drop n xs) ≡ drop n xs
rest_all xs n = take_all (length xs - n) (drop n xs) (omega (arith, length-drop n xs))

-- one more dropped
pub drop_one : {X : Type 0} (n : ℕ) (xs : List X) → drop 1 (drop n xs) ≡ drop (suc n) xs
drop_one zero [] = refl
drop_one (suc n) [] = refl
drop_one zero (x ∷ xs) = refl
drop_one (suc n) (x ∷ xs) = drop_one n xs
