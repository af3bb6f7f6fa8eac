-- Facts about lists, place by place.
use Rattle.std.proofs.Common.{◌≡◌, ℕ, suc, ◌+◌, Bool, true, false, cond, List, [], ◌∷◌, ◌++◌, length, map, All, slice_index_or, refl, sym, ap, ◌∙◌, subst, arith, length-append}
use Rattle.std.specs.Prelude.{filter}
use Rattle.std.specs.List.{list_all, range_with_len}
use Rattle.std.proofs.lemmas.Bool.{and_from}
use Rattle.std.proofs.lemmas.Option.{get_or_from_slice_get}
use Rattle.auto_core.specs.Outcome.{At}
use Rattle.auto_laws.proofs.PlaceLemmas.{at_some}
use Rattle.log_check.specs.Checks.{RuleCheck, AllHold, checks_of_each}
use Rattle.log_check.proofs.CheckLemmas.{all_join}

pub all_from_places : {X : Type 0} (P : X → Type 0) (xs : List X) → ((k : ℕ) (x : X) → At xs k x → P x) → All P xs
all_from_places P xs each k d lt = let (x, is) = at_some xs k lt in subst P (sym (get_or_from_slice_get xs k x d is)) (each k x is)

pub pass_from_places : {X : Type 0} (p : X → Bool) (xs : List X) → ((k : ℕ) (x : X) → At xs k x → p x ≡ true) → list_all p xs ≡ true
pass_from_places p [] each = refl
pass_from_places p (x ∷ xs) each = and_from (p x) (list_all p xs) (each 0 x refl) (pass_from_places p xs (λ k y is. each (suc k) y is))

checks_from : {X : Type 0} (f : ℕ → X → List RuleCheck) (n : ℕ) (xs : List X) → ((k : ℕ) (x : X) → At xs k x → AllHold (f (n + k) x)) → AllHold (checks_of_each f n xs)
checks_from f n [] each = tt
checks_from f n (x ∷ xs) each =
    all_join (f n x) (checks_of_each f (suc n) xs) (let e : n + 0 ≡ n = omega arith in subst (λ m. AllHold (f m x)) e (each 0 x refl))
    (checks_from f (suc n) xs (λ k y is. let e : n + suc k ≡ suc n + k = omega arith in subst (λ m. AllHold (f m y)) e (each (suc k) y is)))

pub checks_from_places : {X : Type 0} (f : ℕ → X → List RuleCheck) (xs : List X) → ((k : ℕ) (x : X) → At xs k x → AllHold (f k x)) → AllHold (checks_of_each f 0 xs)
checks_from_places f xs each = checks_from f 0 xs (λ k x is. let e : k ≡ 0 + k = omega arith in subst (λ m. AllHold (f m x)) e (each k x is))

-- Filtering what a function gives.
pub filter_of_map : {X Y : Type 0} (p : Y → Bool) (f : X → Y) (xs : List X) → filter p (map f xs) ≡ map f (filter (λ x. p (f x)) xs)
filter_of_map p f [] = refl
filter_of_map p f (x ∷ xs) = ap (λ l. cond (p (f x)) (f x ∷ l) l) (filter_of_map p f xs) ∙ inside (p (f x))
  where
    inside : (b : Bool) → cond b (f x ∷ map f (filter (λ x. p (f x)) xs)) (map f (filter (λ x. p (f x)) xs)) ≡ map f (cond b (x ∷ filter (λ x. p (f x)) xs) (filter (λ x. p (f x)) xs))
    inside true = refl
    inside false = refl

-- A list by its numbers.
by_numbers : {X : Type 0} (before xs : List X) (d : X) → map (λ k. slice_index_or (before ++ xs) k d) (range_with_len (length before) (length xs)) ≡ xs
by_numbers before [] d = refl
by_numbers before (x ∷ xs) d = both (here before) (later (by_numbers (before ++ x ∷ []) xs d))
  where
    here : (before : List _) → slice_index_or (before ++ x ∷ xs) (length before) d ≡ x
    here [] = refl
    here (y ∷ ys) = here ys

    later : map (λ k. slice_index_or ((before ++ x ∷ []) ++ xs) k d) (range_with_len (length (before ++ x ∷ [])) (length xs)) ≡ xs →
        map (λ k. slice_index_or (before ++ x ∷ xs) k d) (range_with_len (length before + 1) (length xs)) ≡ xs
    later h = subst (λ n. map (λ k. slice_index_or (before ++ x ∷ xs) k d) (range_with_len n (length xs)) ≡ xs) (size before) (subst (λ l. map (λ k. slice_index_or l k d) (range_with_len (length (before ++ x ∷ [])) (length xs)) ≡ xs) (moved before) h)
      where
        size : (l : List _) → length (l ++ x ∷ []) ≡ length l + 1
        size l = omega (arith, length-append l (x ∷ []))

        moved : (l : List _) → (l ++ x ∷ []) ++ xs ≡ l ++ x ∷ xs
        moved [] = refl
        moved (y ∷ ys) = ap (λ z. y ∷ z) (moved ys)

    both : slice_index_or (before ++ x ∷ xs) (length before) d ≡ x →
        map (λ k. slice_index_or (before ++ x ∷ xs) k d) (range_with_len (length before + 1) (length xs)) ≡ xs →
        slice_index_or (before ++ x ∷ xs) (length before) d ∷ map (λ k. slice_index_or (before ++ x ∷ xs) k d) (range_with_len (length before + 1) (length xs)) ≡ x ∷ xs
    both a b = ap (λ z. z ∷ map (λ k. slice_index_or (before ++ x ∷ xs) k d) (range_with_len (length before + 1) (length xs))) a ∙ ap (λ z. x ∷ z) b

pub list_by_numbers : {X : Type 0} (xs : List X) (d : X) → map (λ k. slice_index_or xs k d) (range_with_len 0 (length xs)) ≡ xs
list_by_numbers xs d = by_numbers [] xs d
