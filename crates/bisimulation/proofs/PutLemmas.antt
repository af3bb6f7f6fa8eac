-- Keys that are put into a set, and numbers that are put behind a list.
use Rattle.std.proofs.Common.{◌≡◌, ℕ, zero, suc, ◌+◌, ◌<◌, ◌⊎◌, inl, inr, Bool, true, false, ◌||◌, List, [], ◌∷◌, ◌++◌, length, get_or, Contains, All, refl, sym, ap, ◌∙◌, subst, arith, if◌then◌else◌, slice_get, Some, nat_eq, not}
use Rattle.std.specs.List.{list_any}
use Rattle.std.proofs.lemmas.Bool.{true≢false, cases_Bool, cases_eq, eqb-true, eq-eqb}
use Rattle.std.proofs.lemmas.List.{get_or_append_left, get_or_push}
use Rattle.std.proofs.lemmas.List.Folds.{list_any_at}
use Rattle.std.proofs.lemmas.List.Elements.{All-push, Contains-append_left, Contains-push}
use Rattle.std.proofs.lemmas.Option.{get_or_from_slice_get}
use Rattle.auto_core.specs.Quotient.{class_of}
use Rattle.indexmap.specs.IndexSet.{insert_key}

module _ {K X : Type 0} (f : K → X) (eq : K → K → Bool) (told : (x y : K) → eq x y ≡ true → f x ≡ f y) (holds : (x y : K) → f x ≡ f y → eq x y ≡ true) where
  -- the place of a key that looks as k does
  pub found : (ks : List K) (k : K) → list_any (eq k) ks ≡ true → (i : ℕ) × (i < length ks) × ((d : K) → f (get_or ks i d) ≡ f k)
  found [] k h = absurd (true≢false (sym h))
  found (x ∷ xs) k h = by (eq k x) refl (λ e. found xs k (sym (ap (λ c. c || list_any (eq k) xs) e) ∙ h))
    where
      by : (b : Bool) → eq k x ≡ b → (eq k x ≡ false → (i : ℕ) × (i < length xs) × ((d : K) → f (get_or xs i d) ≡ f k)) → (i : ℕ) × (i < length (x ∷ xs)) × ((d : K) → f (get_or (x ∷ xs) i d) ≡ f k)
      by true e rest = (zero, omega arith, λ d. sym (told k x e))
      by false e rest = let (i, lt, is) = rest e in (suc i, omega arith, is)

  -- the key was there, or goes last
  pub put : (ks new : List K) (k : K) → new ≡ insert_key eq ks k
      → ((new ≡ ks) × ((i : ℕ) × (i < length ks) × ((d : K) → f (get_or ks i d) ≡ f k)))
      ⊎ ((new ≡ ks ++ k ∷ []) × ((i : ℕ) (d : K) → i < length ks → f (get_or ks i d) ≡ f k → ⊥))
  put ks new k made = elim (cases_Bool (list_any (eq k) ks)) [
    | inl on ↦ inl (made ∙ ap (λ b. if b then ks else ks ++ k ∷ []) on, found ks k on)
    | inr off ↦ inr (
      made ∙ ap (λ b. if b then ks else ks ++ k ∷ []) off,
      λ i d lt is. true≢false (sym (list_any_at (eq k) ks i d lt (holds k (get_or ks i d) (sym is))) ∙ off),
    )
  ]

  -- the key stands under the number that comes back
  pub at_number : (new : List K) (k : K) (n : ℕ) → ((s : K) × (slice_get new n ≡ Some s) × (eq k s ≡ true)) → (d : K) → f (get_or new n d) ≡ f k
  at_number new k n (s, is, same) d = ap f (get_or_from_slice_get new n s d is) ∙ sym (told k s same)

-- the same for numbers
pub put_number : (ks new : List ℕ) (k : ℕ) → new ≡ insert_key nat_eq ks k → ((new ≡ ks) × Contains ks k) ⊎ ((new ≡ ks ++ k ∷ []) × (Contains ks k → ⊥))
put_number ks new k made = elim (put (λ x. x) nat_eq (λ x y e. eqb-true x y e) (λ x y e. eq-eqb x y e) ks new k made) [
  | inl h ↦ let (i, lt, is) = h.1 in inl (h.0, (i, lt, is k))
  | inr h ↦ inr (h.0, λ (i, lt, is). h.1 i k lt is)
]

pub number_stands : (new : List ℕ) (k n : ℕ) → ((s : ℕ) × (slice_get new n ≡ Some s) × (nat_eq k s ≡ true)) → get_or new n 0 ≡ k
number_stands new k n stored = at_number (λ x. x) nat_eq (λ x y e. eqb-true x y e) (λ x y e. eq-eqb x y e) new k n stored 0

pub put_keeps : (ks new : List ℕ) (k x : ℕ) → new ≡ insert_key nat_eq ks k → Contains ks x → Contains new x
put_keeps ks new k x made there = elim (put_number ks new k made) [
  | inl h ↦ subst (λ l. Contains l x) (sym h.0) there
  | inr h ↦ subst (λ l. Contains l x) (sym h.0) (Contains-append_left ks (k ∷ []) x there)
]

pub put_has : (ks new : List ℕ) (k : ℕ) → new ≡ insert_key nat_eq ks k → Contains new k
put_has ks new k made = elim (put_number ks new k made) [
  | inl h ↦ subst (λ l. Contains l k) (sym h.0) h.1
  | inr h ↦ subst (λ l. Contains l k) (sym h.0) (Contains-push ks k)
]

pub put_below : (n : ℕ) (ks new : List ℕ) (k : ℕ) → new ≡ insert_key nat_eq ks k → k < n → All (λ p. p < n) ks → All (λ p. p < n) new
put_below n ks new k made lt below = elim (put_number ks new k made) [
  | inl h ↦ subst (λ l. All (λ p. p < n) l) (sym h.0) below
  | inr h ↦ subst (λ l. All (λ p. p < n) l) (sym h.0) (All-push (λ p. p < n) ks k below lt)
]

-- one number more that is as the function says
pub each_push : (f : ℕ → ℕ) (xs : List ℕ) (n x : ℕ) → length xs ≡ n → ((p : ℕ) → p < n → class_of xs p ≡ f p) → x ≡ f n → (p : ℕ) → p < n + 1 → class_of (xs ++ x ∷ []) p ≡ f p
each_push f xs n x len each is p p_in = elim (cases_eq p n) [
  | inl e ↦ ap (class_of (xs ++ x ∷ [])) e ∙ get_or_push xs x 0 n len ∙ is ∙ ap f (sym e)
  | inr apart ↦ let lt : p < n = omega arith in get_or_append_left xs (x ∷ []) 0 p (omega arith) ∙ each p lt
]

-- The number is on the list or not.
pub has_or_not : (xs : List ℕ) (x : ℕ) → Contains xs x ⊎ (Contains xs x → ⊥)
has_or_not xs x = elim (cases_Bool (list_any (nat_eq x) xs)) [
  | inl on ↦ let (i, lt, is) = found (λ y. y) nat_eq (λ a b e. eqb-true a b e) (λ a b e. eq-eqb a b e) xs x on in inl (i, lt, is x)
  | inr off ↦ inr (λ (i, lt, is). true≢false (sym (list_any_at (nat_eq x) xs i x lt (eq-eqb x (get_or xs i x) (sym is))) ∙ off))
]

-- What the flag of an insertion tells.
pub old_key : (ks new : List ℕ) (k : ℕ) (flag : Bool) → flag ≡ not (list_any (nat_eq k) ks) → flag ≡ false → new ≡ insert_key nat_eq ks k → new ≡ ks
old_key ks new k flag told off made = elim (put_number ks new k made) [
  | inl h ↦ h.0
  | inr h ↦ absurd (h.1 (there (list_any (nat_eq k) ks) refl (sym told ∙ off)))
]
  where
    there : (b : Bool) → list_any (nat_eq k) ks ≡ b → not (list_any (nat_eq k) ks) ≡ false → Contains ks k
    there true on e = let (i, lt, is) = found (λ y. y) nat_eq (λ a b e. eqb-true a b e) (λ a b e. eq-eqb a b e) ks k on in (i, lt, is k)
    there false off e = absurd (true≢false (sym (ap not off) ∙ e))

pub new_key : (ks new : List ℕ) (k : ℕ) (flag : Bool) → flag ≡ not (list_any (nat_eq k) ks) → flag ≡ true → new ≡ insert_key nat_eq ks k → (new ≡ ks ++ k ∷ []) × (Contains ks k → ⊥)
new_key ks new k flag told on made = elim (put_number ks new k made) [
  | inl h ↦ let (i, lt, is) = h.1 in absurd (true≢false (sym on ∙ told ∙ ap not (list_any_at (nat_eq k) ks i k lt (eq-eqb k (get_or ks i k) (sym is)))))
  | inr h ↦ h
]
