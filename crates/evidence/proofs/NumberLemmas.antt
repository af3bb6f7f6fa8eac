-- Ascending lists of numbers, and where a list has a number.
use Rattle.std.proofs.Common.{◌≡◌, ℕ, zero, suc, ◌+◌, ◌-◌, ◌<◌, ◌≤◌, List, [], ◌∷◌, ◌++◌, length, Contains, slice_index, sym, ap, ◌∙◌, subst, inl, inr, arith, length-append}
use Rattle.std.specs.List.Sorted.{IsStrictlyIncreasing}
use Rattle.std.proofs.lemmas.Bool.{cases_eq, cases_lt}
use Rattle.std.proofs.lemmas.List.{get_or_append_left, get_or-append-add, get_or_default}
use Rattle.std.proofs.lemmas.Option.{get_or_from_slice_get}
use Rattle.auto_core.specs.Outcome.{At}
use Rattle.auto_laws.proofs.PlaceLemmas.{at_within, read_at}

pub at_of_contains : {X : Type 0} (xs : List X) (x : X) → Contains xs x → (k : ℕ) × At xs k x
at_of_contains xs x (k, lt, e) = (k, read_at xs k x x lt (sym e))

pub contains_of_at : {X : Type 0} (xs : List X) (k : ℕ) (x : X) → At xs k x → Contains xs x
contains_of_at xs k x is = (k, at_within xs k x is, get_or_from_slice_get xs k x x is)

-- Later places have greater numbers.
ascends : (xs : List ℕ) → IsStrictlyIncreasing xs → (i d : ℕ) → i + suc d < length xs → slice_index xs i < slice_index xs (i + suc d)
ascends xs inc i zero within = let e : i + 1 ≡ i + suc zero = omega arith in subst (λ k. slice_index xs i < slice_index xs k) e (inc i (omega arith))
ascends xs inc i (suc d) within =
    let one = ascends xs inc i d (omega arith) in
    let step = inc (i + suc d) (omega arith) in
    let e : (i + suc d) + 1 ≡ i + suc (suc d) = omega arith in
    let last : slice_index xs (i + suc d) < slice_index xs (i + suc (suc d)) = subst (λ k. slice_index xs (i + suc d) < slice_index xs k) e step in
    omega arith

pub earlier_is_less : (xs : List ℕ) → IsStrictlyIncreasing xs → (i j x y : ℕ) → At xs i x → At xs j y → x < y → i < j
earlier_is_less xs inc i j x y x_is y_is less =
    let i_in = at_within xs i x x_is in
    let first : slice_index xs i ≡ x = get_or_from_slice_get xs i x 0 x_is in
    let second : slice_index xs j ≡ y = get_or_from_slice_get xs j y 0 y_is in
    elim (cases_lt i j) [
      | inl lt ↦ lt
      | inr ge ↦ elim (cases_eq i j) [
        | inl same ↦ let e : slice_index xs i ≡ slice_index xs j = ap (slice_index xs) same in absurd (omega arith)
        | inr other ↦ go i_in first second ge other
      ]
    ]
  where
    go : i < length xs → slice_index xs i ≡ x → slice_index xs j ≡ y → j ≤ i → (i ≡ j → ⊥) → i < j
    go i_in first second ge other = further (less_than i j ge other)
      where
        less_than : (a b : ℕ) → b ≤ a → (a ≡ b → ⊥) → (d : ℕ) × (a ≡ b + suc d)
        less_than a b le ne = elim (cases_lt b a) [ inl lt ↦ (a - suc b, omega arith) | inr back ↦ absurd (ne (omega arith)) ]

        further : (d : ℕ) × (i ≡ j + suc d) → i < j
        further (d, e) =
            let more = ascends xs inc j d (omega arith) in
            let same : slice_index xs (j + suc d) ≡ slice_index xs i = ap (slice_index xs) (sym e) in
            absurd (omega arith)

-- A number above all goes behind.
pub increasing_push : (xs : List ℕ) (y : ℕ) → IsStrictlyIncreasing xs → ((x : ℕ) → Contains xs x → x < y) → IsStrictlyIncreasing (xs ++ y ∷ [])
increasing_push xs y inc above k lt =
    let size = length-append xs (y ∷ []) in
    elim (cases_lt (k + 1) (length xs)) [
      | inl inside ↦
          subst (λ a. a < slice_index (xs ++ y ∷ []) (k + 1)) (sym (get_or_append_left xs (y ∷ []) 0 k (omega arith)))
          (subst (λ b. slice_index xs k < b) (sym (get_or_append_left xs (y ∷ []) 0 (k + 1) inside)) (inc k inside))
      | inr last ↦
          let there : k + 1 ≡ length xs + 0 = omega arith in
          let within : k < length xs = omega arith in
          let is : slice_index (xs ++ y ∷ []) (k + 1) ≡ y = ap (slice_index (xs ++ y ∷ [])) there ∙ get_or-append-add xs (y ∷ []) 0 0 in
          let has : Contains xs (slice_index xs k) = (k, within, get_or_default xs k (slice_index xs k) 0 within) in
          subst (λ a. a < slice_index (xs ++ y ∷ []) (k + 1)) (sym (get_or_append_left xs (y ∷ []) 0 k within))
          (subst (λ b. slice_index xs k < b) (sym is) (above (slice_index xs k) has))
    ]
