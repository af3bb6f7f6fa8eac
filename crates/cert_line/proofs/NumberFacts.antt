use Rattle.std.proofs.Common.{◌≡◌, ℕ, ◌<◌, ◌≤◌, ◌^◌, ◌==◌, List, [], ◌∷◌, length, map, true, not, ◌||◌, nat_lt, decimal, Some, None, get_or, refl, ap, ◌∙◌, arith, lit<, ⊎_elim, lt-ltb, ltb-true, ne_eqb, unwrap_or}
use Rattle.std.specs.List.{list_all}
use Rattle.std.specs.Str.Parse.{digits_value}
use Rattle.std.proofs.Common.{rules}
use Rattle.std.proofs.lemmas.Str.Parse.{IsNumeralModel, numerals_by_value, digits_value_short}
use Rattle.std.proofs.lemmas.Fmt.{digits_decimal, digits_value-decimal, decimal-digits_value, decimal_nonempty, length-decimal-le_wide, first_decimal, decimal_digit}
use Rattle.std.proofs.lemmas.Bool.{and_parts, and_from, or_cases, or_left, or_right, cases_lt, not-true, cond-true, eqb-false}
use Rattle.cert_value.specs.WellFormed.{is_short, are_short}
use Rattle.auto_core.specs.Digits.{is_digit}
use Rattle.cert_line.specs.Shapes.{is_number, value}
use Rattle.cert_value.specs.Text.{numbers}

own : IsNumeralModel (λ ds. list_all is_digit ds ≡ true) (digits_value 10)
own = numerals_by_value _ (search rules)

pub short_lt : (n : ℕ) → is_short n ≡ true → n < 1000000000
short_lt n e = ltb-true n 1000000000 e

-- the parts of a number's test
pub record Numeral (t : List ℕ) : Type 0 where
  pub some : 0 < length t
  pub few : length t < 10
  pub plain : get_or t 0 0 ≡ 48 → length t ≡ 1
  pub digits : list_all is_digit t ≡ true

plain_of : (t : List ℕ) → 0 < length t → (nat_lt (length t) 2 || not (get_or t 0 0 == 48)) ≡ true → get_or t 0 0 ≡ 48 → length t ≡ 1
plain_of t some e h =
    ⊎_elim (λ a. let b : length t < 2 = ltb-true (length t) 2 a in omega arith)
    (λ a. absurd (eqb-false (get_or t 0 0) 48 (not-true (get_or t 0 0 == 48) a) h))
    (or_cases (nat_lt (length t) 2) (not (get_or t 0 0 == 48)) e)

pub numeral : (t : List ℕ) → is_number t ≡ true → Numeral t
numeral t e =
    let a = and_parts (nat_lt 0 (length t)) _ e in
    let b = and_parts (nat_lt (length t) 10) _ a.1 in
    let c = and_parts (nat_lt (length t) 2 || not (get_or t 0 0 == 48)) (list_all is_digit t) b.1 in
    let some : 0 < length t = ltb-true 0 (length t) a.0 in
    record {
      some = some;
      few = ltb-true (length t) 10 b.0;
      plain = plain_of t some c.0;
      digits = c.1;
    }

pub value_is : (t : List ℕ) → is_number t ≡ true → value t ≡ digits_value 10 t
value_is t e = ap (λ o. unwrap_or o 0) (cond-true (is_number t) (Some (digits_value 10 t)) None e)

-- a number's token is what is written of its value
pub value_short : (t : List ℕ) → is_number t ≡ true → is_short (value t) ≡ true
value_short t e =
    let n = numeral t e in
    let small : digits_value 10 t < 10 ^ 9 = digits_value_short own t 9 n.digits (let f = n.few in omega arith) in
    let less : digits_value 10 t < 1000000000 = small in
    ap is_short (value_is t e) ∙ lt-ltb (digits_value 10 t) 1000000000 less

pub decimal_value : (t : List ℕ) → is_number t ≡ true → decimal (value t) ≡ t
decimal_value t e =
    let n = numeral t e in
    let small : digits_value 10 t < 10 ^ 9 = digits_value_short own t 9 n.digits (let f = n.few in omega arith) in
    let less : digits_value 10 t < 1000000000 = small in
    ap decimal (value_is t e) ∙ decimal-digits_value own t n.digits n.some n.plain (omega arith)

-- what is written of a short number is a number's token
pub number_decimal : (n : ℕ) → is_short n ≡ true → is_number (decimal n) ≡ true
number_decimal n e =
    let lt : n < 1000000000 = short_lt n e in
    let wide : n < 2 ^ 64 = omega arith in
    let some : 0 < length (decimal n) = decimal_nonempty n wide in
    let nine : n < 10 ^ 9 = lt in
    let far : n < 10 ^ 64 = omega arith in
    let few : length (decimal n) ≤ 9 = length-decimal-le_wide 9 n (lit< tt) nine far in
    let plain : (nat_lt (length (decimal n)) 2 || not (get_or (decimal n) 0 0 == 48)) ≡ true =
    ⊎_elim
    (λ digit. or_left (nat_lt (length (decimal n)) 2) (not (get_or (decimal n) 0 0 == 48))
    (ap (λ xs. nat_lt (length xs) 2) (decimal_digit n digit)))
    (λ more. or_right (nat_lt (length (decimal n)) 2) (not (get_or (decimal n) 0 0 == 48))
    (let big = first_decimal n (omega arith) wide in
    ap not (ne_eqb (get_or (decimal n) 0 0) 48 (λ h. omega arith))))
    (cases_lt n 10) in
    and_from (nat_lt 0 (length (decimal n))) _ (lt-ltb 0 (length (decimal n)) some)
    (and_from (nat_lt (length (decimal n)) 10) _ (lt-ltb (length (decimal n)) 10 (omega arith))
    (and_from _ (list_all is_digit (decimal n)) plain (digits_decimal own n wide)))

pub value_decimal : (n : ℕ) → is_short n ≡ true → value (decimal n) ≡ n
value_decimal n e =
    let lt : n < 1000000000 = short_lt n e in
    value_is (decimal n) (number_decimal n e) ∙ digits_value-decimal own n (omega arith)

-- the same of lists
pub values_numbers : (ns : List ℕ) → are_short ns ≡ true → map value (numbers ns) ≡ ns
values_numbers [] e = refl
values_numbers (n ∷ ns) e =
    let p = and_parts (is_short n) (are_short ns) e in
    ap (λ x. x ∷ map value (numbers ns)) (value_decimal n p.0) ∙ ap (λ xs. n ∷ xs) (values_numbers ns p.1)

pub numbers_are : (ns : List ℕ) → are_short ns ≡ true → list_all is_number (numbers ns) ≡ true
numbers_are [] e = refl
numbers_are (n ∷ ns) e =
    let p = and_parts (is_short n) (are_short ns) e in
    and_from (is_number (decimal n)) (list_all is_number (numbers ns)) (number_decimal n p.0) (numbers_are ns p.1)

pub numbers_values : (ts : List (List ℕ)) → list_all is_number ts ≡ true → numbers (map value ts) ≡ ts
numbers_values [] e = refl
numbers_values (t ∷ ts) e =
    let p = and_parts (is_number t) (list_all is_number ts) e in
    ap (λ x. x ∷ numbers (map value ts)) (decimal_value t p.0) ∙ ap (λ xs. t ∷ xs) (numbers_values ts p.1)

pub values_short : (ts : List (List ℕ)) → list_all is_number ts ≡ true → are_short (map value ts) ≡ true
values_short [] e = refl
values_short (t ∷ ts) e =
    let p = and_parts (is_number t) (list_all is_number ts) e in
    and_from (is_short (value t)) (are_short (map value ts)) (value_short t p.0) (values_short ts p.1)
