-- Pairs in the order in which they came: their equality as a test.
use Rattle.std.proofs.Common.{◌≡◌, ℕ, Bool, true, not, ◌&&◌, ◌==◌, inl, inr, List, [], ◌∷◌, ◌++◌, Contains, position, Some, sym, ap, ◌∙◌, subst, arith, if◌then◌else◌}
use Rattle.std.specs.List.{list_any}
use Rattle.std.proofs.lemmas.Bool.{true≢false, cases_Bool}
use Rattle.std.proofs.lemmas.Bool.Decides.{nat_tests}
use Rattle.std.proofs.lemmas.List.Folds.{list_any_at}
use Rattle.std.proofs.lemmas.List.Quantifiers.{position-Some}
use Rattle.indexmap.proofs.CallerLemmas.{Contains-list_any}
use Rattle.indexmap.specs.IndexSet.{insert_key}
use Rattle.product_search.specs.Found.{pair_at, IsAdded}
use Rattle.product_search.proofs.FoundLemmas.{same_pair, place_of}

abbrev pub is_same : ℕ × ℕ → ℕ × ℕ → Bool
is_same x y = (x.0 == y.0) && (x.1 == y.1)

both_same : (a b c d : ℕ) → (a == c) && (b == d) ≡ true → (a ≡ c) × (b ≡ d)
both_same a b c d h = grind (arith, nat_tests)

is_itself : (a b : ℕ) → (a == a) && (b == b) ≡ true
is_itself a b = grind (arith, nat_tests)

pub same_is : (x y : ℕ × ℕ) → is_same x y ≡ true → x ≡ y
same_is x y h = let (left, right) = both_same x.0 x.1 y.0 y.1 h in same_pair x.0 x.1 y.0 y.1 left right

-- A pair of the list passes the test.
pub test_finds : (pairs : List (ℕ × ℕ)) (x : ℕ × ℕ) → Contains pairs x → list_any (is_same x) pairs ≡ true
test_finds pairs x there =
    let (i, lt, is) = place_of pairs x there in
    list_any_at (is_same x) pairs i (0, 0) lt (subst (λ y. is_same x y ≡ true) (sym is) (is_itself x.0 x.1))

pub found_at : (pairs : List (ℕ × ℕ)) (x : ℕ × ℕ) (i : ℕ) → position (is_same x) pairs ≡ Some i → pair_at pairs i ≡ x
found_at pairs x i is = let (lt, passes, first) = position-Some (is_same x) pairs i (0, 0) is in sym (same_is x (pair_at pairs i) passes)

pub is_added : (pairs : List (ℕ × ℕ)) (x : ℕ × ℕ) (new : List (ℕ × ℕ)) (flag : Bool) → flag ≡ not (list_any (is_same x) pairs) → new ≡ insert_key is_same pairs x → IsAdded pairs x new flag
is_added pairs x new flag told made = elim (cases_Bool (list_any (is_same x) pairs)) [
  | inl on ↦ inr (told ∙ ap not on, made ∙ ap (λ b. if b then pairs else pairs ++ x ∷ []) on, Contains-list_any is_same same_is pairs x on)
  | inr off ↦ inl (told ∙ ap not off, made ∙ ap (λ b. if b then pairs else pairs ++ x ∷ []) off, λ there. true≢false (sym (test_finds pairs x there) ∙ off))
]
