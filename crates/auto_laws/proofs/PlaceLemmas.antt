-- Elements at places of a list, as it grows at its end; what is read at places, and lists that give the same at each.
use Rattle.std.proofs.Common.{◌≡◌, ℕ, zero, suc, ◌<◌, ◌⊎◌, List, [], ◌∷◌, ◌++◌, length, map, take, slice_index_or, refl, sym, ap, ◌∙◌, inl, inr, arith}
use Rattle.std.specs.Prelude.{Some}
use Rattle.std.proofs.lemmas.Option.{same_Some, none-some, slice_get-get_or, slice_get_within}
use Rattle.auto_core.specs.Outcome.{Rules, At, StaysLive, HasSubsumer}

pub at_same : {E : Type 0} (es : List E) (i : ℕ) (x y : E) → At es i x → At es i y → x ≡ y
at_same es i x y p q = same_Some x y (sym p ∙ q)

pub at_within : {E : Type 0} (es : List E) (i : ℕ) (x : E) → At es i x → i < length es
at_within es i x p = slice_get_within es i x p

pub at_some : {E : Type 0} (es : List E) (i : ℕ) → i < length es → (x : E) × At es i x
at_some [] i lt = absurd (omega arith)
at_some (x ∷ es) zero lt = (x, refl)
at_some (x ∷ es) (suc i) lt = at_some es i (omega arith)

pub at_more : {E : Type 0} (es ds : List E) (i : ℕ) (x : E) → At es i x → At (es ++ ds) i x
at_more [] ds i x p = absurd (none-some x p)
at_more (y ∷ es) ds zero x p = p
at_more (y ∷ es) ds (suc i) x p = at_more es ds i x p

pub at_new : {E : Type 0} (es : List E) (c : E) → At (es ++ c ∷ []) (length es) c
at_new [] c = refl
at_new (y ∷ es) c = at_new es c

pub at_cases : {E : Type 0} (es : List E) (c : E) (i : ℕ) (x : E) → At (es ++ c ∷ []) i x → At es i x ⊎ ((i ≡ length es) × (x ≡ c))
at_cases [] c zero x p = inr (refl, sym (same_Some c x p))
at_cases [] c (suc i) x p = absurd (none-some x p)
at_cases (y ∷ es) c zero x p = inl p
at_cases (y ∷ es) c (suc i) x p = elim (at_cases es c i x p) [ inl here ↦ inl here | inr new ↦ inr (ap suc new.0, new.1) ]

pub at_before : {E : Type 0} (es : List E) (c : E) (i : ℕ) (x : E) → i < length es → At (es ++ c ∷ []) i x → At es i x
at_before es c i x lt p = elim (at_cases es c i x p) [ inl here ↦ here | inr new ↦ let e = new.0 in absurd (omega arith) ]

-- A live element was live before.
pub live_before : {E : Type 0} (R : Rules E) (es : List E) (c : E) (i : ℕ) → StaysLive R (es ++ c ∷ []) i → StaysLive R es i
live_before R es c i live j x y later x_is y_is subsumes = live j x y later (at_more es (c ∷ []) i x x_is) (at_more es (c ∷ []) j y y_is) subsumes

-- What was subsumed still is.
pub subsumed_more : {E : Type 0} (R : Rules E) (es ds : List E) (x : E) → HasSubsumer R es x → HasSubsumer R (es ++ ds) x
subsumed_more R es ds x h = (h.0, h.1, at_more es ds h.0 h.1 h.2, h.3)

-- What is read at a place is there.
pub read_at : {X : Type 0} (xs : List X) (i : ℕ) (d x : X) → i < length xs → x ≡ slice_index_or xs i d → At xs i x
read_at xs i d x lt is = slice_get-get_or xs i d lt ∙ ap Some (sym is)

pub take_front : (n : ℕ) (xs ys : List ℕ) → n ≡ length xs → take n (xs ++ ys) ≡ xs
take_front zero [] ys e = refl
take_front zero (x ∷ xs) ys e = absurd (omega arith)
take_front (suc n) [] ys e = absurd (omega arith)
take_front (suc n) (x ∷ xs) ys e = ap (λ l. x ∷ l) (take_front n xs ys (omega arith))

-- Lists whose elements give the same, place by place.
pub same_maps : {X Y Z : Type 0} (f : X → Z) (g : Y → Z) (xs : List X) (ys : List Y) → length xs ≡ length ys → ((i : ℕ) (x : X) (y : Y) → At xs i x → At ys i y → f x ≡ g y) → map f xs ≡ map g ys
same_maps f g [] [] size same = refl
same_maps f g [] (y ∷ ys) size same = absurd (omega arith)
same_maps f g (x ∷ xs) [] size same = absurd (omega arith)
same_maps f g (x ∷ xs) (y ∷ ys) size same =
    ap (λ z. z ∷ map f xs) (same 0 x y refl refl) ∙ ap (λ l. g y ∷ l) (same_maps f g xs ys (omega arith) (λ i a b a_is b_is. same (suc i) a b a_is b_is))

-- Lists with the same at each place.
pub same_by_places : {X : Type 0} (xs ys : List X) → length xs ≡ length ys → ((k : ℕ) (x y : X) → At xs k x → At ys k y → x ≡ y) → xs ≡ ys
same_by_places [] [] size same = refl
same_by_places [] (y ∷ ys) size same = absurd (omega arith)
same_by_places (x ∷ xs) [] size same = absurd (omega arith)
same_by_places (x ∷ xs) (y ∷ ys) size same =
    ap (λ z. z ∷ xs) (same 0 x y refl refl) ∙ ap (λ zs. y ∷ zs) (same_by_places xs ys (omega arith) (λ k a b a_is b_is. same (suc k) a b a_is b_is))
