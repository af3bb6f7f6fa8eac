-- Numbers that are spelled plainly are what `parse` reads.
use Rattle.std.proofs.Common.{◌≡◌, ℕ, ◌<◌, ◌≤◌, Bool, true, false, ◌&&◌, List, [], ◌∷◌, length, Some, None, if◌then◌else◌, refl, sym, subst, arith, rules}
use Rattle.std.proofs.lemmas.Bool.{leb-true, false≢true}
use Rattle.std.proofs.lemmas.Str.{digit_value_digit}
use Rattle.std.specs.Prelude.{nat_le}
use Rattle.std.specs.List.{list_all}
use Rattle.std.specs.Str.Parse.{IsNumeral, AllDigits, digits_value, without_leading_plus}
use Rattle.auto_core.specs.Digits.{is_digit}
use Rattle.rabit_words.specs.Number.{starts_well, is_spelled, number_between}

both : (a b : Bool) → (a && b) ≡ true → (a ≡ true) × (b ≡ true)
both true true e = (refl, refl)
both true false e = absurd (false≢true e)
both false b e = absurd (false≢true e)

digit_range : (c : ℕ) → is_digit c ≡ true → (48 ≤ c) × (c ≤ 57)
digit_range c e = let (a, b) = both (nat_le 48 c) (nat_le c 57) e in (leb-true 48 c a, leb-true c 57 b)

all_digits : (text : List ℕ) → list_all is_digit text ≡ true → AllDigits 10 text
all_digits [] e = tt
all_digits (c ∷ cs) e =
    let (a, b) = both (is_digit c) (list_all is_digit cs) e in
    let (low, high) = digit_range c a in
    let value = digit_value_digit c (low, high) in
    (omega arith, all_digits cs b)

some_digit : (text : List ℕ) → starts_well text ≡ true → 0 < length text
some_digit [] e = absurd (false≢true e)
some_digit (c ∷ cs) e = omega arith

pub numeral : (text : List ℕ) → is_spelled text ≡ true → IsNumeral 10 text
numeral text e = let (a, b) = both (starts_well text) (list_all is_digit text) e in (some_digit text a, all_digits text b)

pub no_plus : (text : List ℕ) → is_spelled text ≡ true → without_leading_plus text ≡ text
no_plus [] e = absurd (false≢true e)
no_plus (c ∷ cs) e = go (starts_well (c ∷ cs)) e
  where
    go : (a : Bool) → (a && list_all is_digit (c ∷ cs)) ≡ true → without_leading_plus (c ∷ cs) ≡ c ∷ cs
    go false h = absurd (false≢true h)
    go true h =
        let (d, ds) = both (is_digit c) (list_all is_digit cs) h in
        let (low, high) = digit_range c d in
        search (rules, arith)

choice : (a b c : Bool) (v : ℕ) → (c ≡ true → ⊥) → (if a && (b && c) then Some v else None) ≡ None
choice a b true v f = absurd (f refl)
choice true true false v f = refl
choice true false false v f = refl
choice false b false v f = refl

-- what `parse` refuses is past the range
pub number_refused : (low high : ℕ) (text : List ℕ) → is_spelled text ≡ true → high < 4294967296 → ¬ (IsNumeral 10 (without_leading_plus text) × (digits_value 10 (without_leading_plus text) < 4294967296)) → number_between low high text ≡ None
number_refused low high text e small not_read =
    choice (is_spelled text) (nat_le low (digits_value 10 text)) (nat_le (digits_value 10 text) high) (digits_value 10 text) (λ t.
    let le = leb-true (digits_value 10 text) high t in
    let P : List ℕ → Type 0 = λ w. IsNumeral 10 w × (digits_value 10 w < 4294967296) in
    not_read (subst P (sym (no_plus text e)) (numeral text e, omega arith)))

taken : (a b c : Bool) (v n : ℕ) → (if a && (b && c) then Some v else None) ≡ Some n → (b ≡ true) × (c ≡ true) × (v ≡ n)
taken true true true v n e = (refl, refl, cc)
taken true true false v n e = absurd (let f = e in cc)
taken true false c v n e = absurd (let f = e in cc)
taken false b c v n e = absurd (let f = e in cc)

pub number_in_range : (low high : ℕ) (text : List ℕ) (n : ℕ) → number_between low high text ≡ Some n → (low ≤ n) × (n ≤ high)
number_in_range low high text n e =
    let (b, c, same) = taken (is_spelled text) (nat_le low (digits_value 10 text)) (nat_le (digits_value 10 text) high) (digits_value 10 text) n e in
    let from = leb-true low (digits_value 10 text) b in
    let upto = leb-true (digits_value 10 text) high c in
    (omega arith, omega arith)
