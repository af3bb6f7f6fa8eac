use Rattle.std.proofs.Common.{◌≡◌, ℕ, ◌<◌, List, [], ◌∷◌, length, decimal, Bool, true, ◌&&◌, refl, sym, ap, ap₂, ◌∙◌, arith, lt-ltb}
use Rattle.std.specs.List.{list_all}
use Rattle.std.proofs.lemmas.Bool.{and_parts, and_from}
use Rattle.cert_value.specs.Text.{numbers, in_pairs}
use Rattle.cert_value.specs.WellFormed.{is_short, are_short, has_some}
use Rattle.cert_line.specs.Shapes.{pair_up}
use Rattle.cert_line.specs.Lines.{by_two}

pub some_cons : {A : Type 0} (x : A) (xs : List A) → has_some (x ∷ xs) ≡ true
some_cons x xs = lt-ltb 0 (length (x ∷ xs)) (omega arith)

-- fewer than two numbers are no pair
pub two_short : {A : Type 0} (f : ℕ → ℕ → A) (ns : List ℕ) → length ns < 2 → by_two f ns ≡ []
two_short f [] h = refl
two_short f (n ∷ []) h = refl
two_short f (n ∷ m ∷ ns) h = absurd (omega arith)

-- items of two numbers each, and their numbers
module _ {A : Type 0} (f : ℕ → ℕ → A) (a b : A → ℕ) where
  pub pairs_back : ((x : A) → f (a x) (b x) ≡ x) → (xs : List A) → by_two f (in_pairs a b xs) ≡ xs
  pairs_back same [] = refl
  pairs_back same (x ∷ xs) = ap₂ (λ y ys. y ∷ ys) (same x) (pairs_back same xs)

  pub pairs_there : ((n m : ℕ) → a (f n m) ≡ n) → ((n m : ℕ) → b (f n m) ≡ m) → (ns : List ℕ) → pair_up (numbers ns) ≡ true
      → in_pairs a b (by_two f ns) ≡ ns
  pairs_there p q [] e = refl
  pairs_there p q (n ∷ []) e = absurd (cc)
  pairs_there p q (n ∷ m ∷ ns) e =
      ap₂ (λ x xs. x ∷ b (f n m) ∷ xs) (p n m) (pairs_there p q ns e) ∙ ap (λ y. n ∷ y ∷ ns) (q n m)

  pub pairs_short : (test : A → Bool) → ((x : A) → test x ≡ (is_short (a x) && is_short (b x))) → (xs : List A) → list_all test xs ≡ true
      → are_short (in_pairs a b xs) ≡ true
  pairs_short test is [] e = refl
  pairs_short test is (x ∷ xs) e =
      let p = and_parts (test x) (list_all test xs) e in
      let q = and_parts (is_short (a x)) (is_short (b x)) (sym (is x) ∙ p.0) in
      and_from (is_short (a x)) _ q.0 (and_from (is_short (b x)) _ q.1 (pairs_short test is xs p.1))

  pub short_pairs : (test : A → Bool) → ((n m : ℕ) → test (f n m) ≡ (is_short n && is_short m)) → (ns : List ℕ) → are_short ns ≡ true
      → list_all test (by_two f ns) ≡ true
  short_pairs test is [] e = refl
  short_pairs test is (n ∷ []) e = refl
  short_pairs test is (n ∷ m ∷ ns) e =
      let p = and_parts (is_short n) _ e in
      let q = and_parts (is_short m) _ p.1 in
      and_from (test (f n m)) _ (is n m ∙ and_from (is_short n) (is_short m) p.0 q.0) (short_pairs test is ns q.1)

  pub pairs_even : (xs : List A) → pair_up (numbers (in_pairs a b xs)) ≡ true
  pairs_even [] = refl
  pairs_even (x ∷ xs) = pairs_even xs

  pub pairs_some : (xs : List A) → has_some xs ≡ true → has_some (numbers (in_pairs a b xs)) ≡ true
  pairs_some [] e = e
  pairs_some (x ∷ xs) e = some_cons (decimal (a x)) (decimal (b x) ∷ numbers (in_pairs a b xs))

pub some_pairs : {A : Type 0} (f : ℕ → ℕ → A) (ns : List ℕ) → has_some (numbers ns) ≡ true → pair_up (numbers ns) ≡ true
    → has_some (by_two f ns) ≡ true
some_pairs f [] e h = e
some_pairs f (n ∷ []) e h = absurd (cc)
some_pairs f (n ∷ m ∷ ns) e h = some_cons (f n m) (by_two f ns)
