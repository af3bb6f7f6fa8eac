-- The test for an accepting state against the fact.
use Rattle.std.proofs.Common.{◌≡◌, ℕ, true, List, IsTrue, ◌↔◌, Contains, eqb, get_or, ◌∙◌}
use Rattle.std.specs.List.{list_any}
use Rattle.std.proofs.lemmas.Bool.{eqb-true, eq-eqb}
use Rattle.std.proofs.lemmas.List.{get_or_default}
use Rattle.std.proofs.lemmas.List.Folds.{Any-from_list_any, list_any_at}

pub Contains-from_test : (xs : List ℕ) (q : ℕ) → list_any (λ x. eqb x q) xs ≡ true → Contains xs q
Contains-from_test xs q h =
    let (k, x, k_in, at, same) = Any-from_list_any (λ x. eqb x q) xs h in
    (k, k_in, get_or_default xs k q x k_in ∙ at ∙ eqb-true x q same)

pub test-from_Contains : (xs : List ℕ) (q : ℕ) → Contains xs q → list_any (λ x. eqb x q) xs ≡ true
test-from_Contains xs q (k, k_in, at) = list_any_at (λ x. eqb x q) xs k q k_in (eq-eqb (get_or xs k q) q at)

pub test_says : (xs : List ℕ) (q : ℕ) → IsTrue (list_any (λ x. eqb x q) xs) ↔ Contains xs q
test_says xs q = (Contains-from_test xs q, test-from_Contains xs q)
