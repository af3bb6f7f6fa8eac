-- Counting: numbers made of digits, and how many different numbers there are below a bound.
use Rattle.std.proofs.Common.{◌≡◌, ℕ, zero, suc, ◌+◌, ◌*◌, ◌^◌, ◌<◌, ◌≤◌, List, map, length, get_or, sym, ap, ◌∙◌, subst, inl, inr, arith, mul-zero}
use Rattle.std.specs.List.{range_with_len}
use Rattle.std.proofs.Math.Nat.{pow-zero, pow-suc, pow-succ'}
use Rattle.std.proofs.lemmas.Bool.{cases_lt}
use Rattle.std.proofs.lemmas.Nat.{mul-add-lt, pow-add, same_from_place}
use Rattle.std.proofs.lemmas.List.FromFn.{length-map-range_with_len, get_or-map-range_with_len}
use Rattle.auto_laws.proofs.PumpingLemmas.{pigeonhole}

-- The number whose digits to the base are the first n values of f, the first of them the most significant.
abbrev pub numeral : ℕ → (ℕ → ℕ) → ℕ → ℕ
numeral base f zero = 0
numeral base f (suc n) = numeral base f n * base + f n

-- The first n values of f are below the base, as its digits are.
abbrev pub AreDigits : ℕ → (ℕ → ℕ) → ℕ → Type 0
AreDigits base f n = (k : ℕ) → k < n → f k < base

fewer : (base : ℕ) (f : ℕ → ℕ) (n : ℕ) → AreDigits base f (suc n) → AreDigits base f n
fewer base f n digits k lt = digits k (omega arith)

last : (base : ℕ) (f : ℕ → ℕ) (n : ℕ) → AreDigits base f (suc n) → f n < base
last base f n digits = digits n (omega arith)

-- A number of n digits is below that power of the base.
pub numeral_below : (base : ℕ) (f : ℕ → ℕ) (n : ℕ) → AreDigits base f n → numeral base f n < base ^ n
numeral_below base f zero digits = let one = pow-zero base in omega arith
numeral_below base f (suc n) digits =
    let front = numeral_below base f n (fewer base f n digits) in
    subst (λ m. numeral base f n * base + f n < m) (sym (pow-succ' base n)) (mul-add-lt (numeral base f n) base (f n) (base ^ n) front (last base f n digits))

-- Equal numbers of so many digits have the same digits.
pub same_digits : (base : ℕ) (f g : ℕ → ℕ) (n : ℕ) → AreDigits base f n → AreDigits base g n → numeral base f n ≡ numeral base g n → (k : ℕ) → k < n → f k ≡ g k
same_digits base f g zero small few e k lt = absurd (omega arith)
same_digits base f g (suc n) small few e k lt =
    let same = same_from_place (numeral base f n) (f n) (numeral base g n) (g n) base (last base f n small) (last base g n few) e in
    elim (cases_lt k n) [
      | inl before ↦ same_digits base f g n (fewer base f n small) (fewer base g n few) same.0 k before
      | inr after ↦ let here : k ≡ n = omega arith in ap f here ∙ same.1 ∙ sym (ap g here)
    ]

-- A power of a power is the power by the product.
pub pow-times : (base m n : ℕ) → (base ^ m) ^ n ≡ base ^ (m * n)
pow-times base m zero = pow-zero (base ^ m) ∙ sym (pow-zero base) ∙ ap (λ k. base ^ k) (sym (mul-zero m))
pow-times base m (suc n) =
    let e : m * n + m ≡ m * suc n = omega arith in
    pow-suc (base ^ m) n ∙ ap (λ k. k * base ^ m) (pow-times base m n) ∙ sym (pow-add base (m * n) m) ∙ ap (λ k. base ^ k) e

-- Of more than n numbers below n two are equal.
two_alike : (n m : ℕ) (f : ℕ → ℕ) → n < m → AreDigits n f m → (i j : ℕ) × (i < j) × (j < m) × (f i ≡ f j)
two_alike n m f more below =
    let xs : List ℕ = map f (range_with_len 0 m) in
    let size : length xs ≡ m = length-map-range_with_len f 0 m in
    let value : (i d : ℕ) → i < m → get_or xs i d ≡ f i = λ i d lt. get_or-map-range_with_len f 0 m i i d lt (omega arith) in
    let again = pigeonhole n xs (omega arith) (λ i d lt. let inside : i < m = omega arith in subst (λ x. x < n) (sym (value i d inside)) (below i inside)) in
    let i : ℕ = again.0 in
    let j : ℕ = again.1 in
    let before : i < j = again.2 in
    let within : j < length xs = again.3 in
    (i, j, before, omega arith, sym (value i 0 (omega arith)) ∙ again.4 0 ∙ value j 0 (omega arith))

-- So pairwise different numbers below n are no more than n.
pub no_more : (n m : ℕ) (f : ℕ → ℕ) → AreDigits n f m → ((i j : ℕ) → i < j → j < m → f i ≡ f j → ⊥) → m ≤ n
no_more n m f below differ = elim (cases_lt n m) [
  | inl more ↦ let alike = two_alike n m f more below in absurd (differ alike.0 alike.1 alike.2 alike.3 alike.4)
  | inr few ↦ few
]
