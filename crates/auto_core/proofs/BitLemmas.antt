-- Bits of rows.
use Rattle.std.proofs.Common.{◌≡◌, ℕ, ◌+◌, ◌-◌, ◌*◌, ◌/◌, ◌%◌, ◌^◌, ◌<◌, ◌≤◌, ◌⊎◌, inl, inr, ◌==◌, true, false, ◌||◌, List, length, get_or, set, refl, sym, ap, ◌∙◌, subst, arith, max, min, bit_and, bit_or, get_or-set_same, w64}
use Rattle.std.specs.Int.{bit_at, bit_not, trailing_zeros}
use Rattle.std.proofs.lemmas.Bool.{cases_eq, cases_lt, eqb-true, eq-eqb, false≢true}
use Rattle.std.proofs.lemmas.Bool.Decides.{nat_tests}
use Rattle.std.proofs.lemmas.List.{get_or-set_other, get_or_past}
use Rattle.std.proofs.lemmas.Nat.Bits.{bit_at_set_same, bit_at_set_other, bit_at_clear_same, bit_at_clear_other, bit_at_or, bit_at_and, bit_at-lt, bit_at-zero, bit_at_not, bit_at-trailing_zeros}
use Rattle.auto_core.specs.Rows.{bit_of, HasBit}

in_word : (i : ℕ) → i % 64 < 64
in_word i = omega arith

parts_of : (i j : ℕ) → i / 64 ≡ j / 64 → i % 64 ≡ j % 64 → i ≡ j
parts_of i j p q = omega arith

-- a word is changed to one whose bits the tests c give
one_word :
    (row : List ℕ) (at word : ℕ)
    → at < length row
    → (i : ℕ)
    → ((i / 64 ≡ at) × (bit_of (set row at word) i ≡ (bit_at word (i % 64) == 1))) ⊎ (¬ (i / 64 ≡ at) × (bit_of (set row at word) i ≡ bit_of row i))
one_word row at word at_in i =
    elim (cases_eq (i / 64) at) [
      | inl e ↦ inl (e, ap (λ w. bit_at w (i % 64) == 1) (ap (λ k. get_or (set row at word) k 0) e ∙ get_or-set_same row at word 0 at_in))
      | inr n ↦ inr (n, ap (λ w. bit_at w (i % 64) == 1) (get_or-set_other row at (i / 64) word 0 n))
    ]

pub set_here :
    (row : List ℕ) (b : ℕ)
    → b / 64 < length row
    → bit_of (set row (b / 64) (bit_or (get_or row (b / 64) 0) (1 * 2 ^ (b % 64) % 2 ^ 64))) b ≡ true
set_here row b b_in =
    let word = bit_or (get_or row (b / 64) 0) (1 * 2 ^ (b % 64) % 2 ^ 64) in
    elim (one_word row (b / 64) word b_in b) [
      | inl h ↦ h.1 ∙ ap (λ n. n == 1) (bit_at_set_same w64 (get_or row (b / 64) 0) (b % 64) (in_word b))
      | inr h ↦ absurd (h.0 refl)
    ]

pub set_others :
    (row : List ℕ) (b : ℕ)
    → b / 64 < length row
    → (i : ℕ)
    → ¬ (i ≡ b)
    → bit_of (set row (b / 64) (bit_or (get_or row (b / 64) 0) (1 * 2 ^ (b % 64) % 2 ^ 64))) i ≡ bit_of row i
set_others row b b_in i n =
    let word = bit_or (get_or row (b / 64) 0) (1 * 2 ^ (b % 64) % 2 ^ 64) in
    elim (one_word row (b / 64) word b_in i) [
      | inl h ↦
          h.1
          ∙ ap (λ n. n == 1) (bit_at_set_other w64 (get_or row (b / 64) 0) (b % 64) (in_word b) (i % 64) (λ e. n (parts_of i b h.0 e)))
          ∙ ap (λ k. bit_at (get_or row k 0) (i % 64) == 1) (sym h.0)
      | inr h ↦ h.1
    ]

pub clear_here :
    (row : List ℕ) (b : ℕ)
    → b / 64 < length row
    → bit_of (set row (b / 64) (bit_and (get_or row (b / 64) 0) (bit_not w64 (1 * 2 ^ (b % 64) % 2 ^ 64)))) b ≡ false
clear_here row b b_in =
    let word = bit_and (get_or row (b / 64) 0) (bit_not w64 (1 * 2 ^ (b % 64) % 2 ^ 64)) in
    elim (one_word row (b / 64) word b_in b) [
      | inl h ↦ h.1 ∙ ap (λ n. n == 1) (bit_at_clear_same w64 (get_or row (b / 64) 0) (b % 64) (in_word b))
      | inr h ↦ absurd (h.0 refl)
    ]

pub clear_others :
    (row : List ℕ) (b : ℕ)
    → b / 64 < length row
    → (i : ℕ)
    → ¬ (i ≡ b)
    → bit_of (set row (b / 64) (bit_and (get_or row (b / 64) 0) (bit_not w64 (1 * 2 ^ (b % 64) % 2 ^ 64)))) i ≡ bit_of row i
clear_others row b b_in i n =
    let word = bit_and (get_or row (b / 64) 0) (bit_not w64 (1 * 2 ^ (b % 64) % 2 ^ 64)) in
    elim (one_word row (b / 64) word b_in i) [
      | inl h ↦
          h.1
          ∙ ap (λ n. n == 1) (bit_at_clear_other w64 (get_or row (b / 64) 0) (b % 64) (in_word b) (i % 64) (in_word i) (λ e. n (parts_of i b h.0 e)))
          ∙ ap (λ k. bit_at (get_or row k 0) (i % 64) == 1) (sym h.0)
      | inr h ↦ h.1
    ]

or_tests : (a b : ℕ) → a < 2 → b < 2 → (max a b == 1) ≡ ((a == 1) || (b == 1))
or_tests a b a_bit b_bit = grind (arith, nat_tests)

pub bit_or_tests : (a b i : ℕ) → (bit_at (bit_or a b) i == 1) ≡ ((bit_at a i == 1) || (bit_at b i == 1))
bit_or_tests a b i = ap (λ n. n == 1) (bit_at_or a b i) ∙ or_tests (bit_at a i) (bit_at b i) (bit_at-lt a i) (bit_at-lt b i)

-- words that are the 'or' of two rows' words, place by place
pub or_rows :
    (old from new : List ℕ)
    → length new ≡ length old
    → length old ≡ length from
    → ((k : ℕ) → k < length old → get_or new k 0 ≡ bit_or (get_or old k 0) (get_or from k 0))
    → (i : ℕ)
    → bit_of new i ≡ (bit_of old i || bit_of from i)
or_rows old from new same_len len each i =
    elim (cases_lt (i / 64) (length old)) [
      | inl h ↦ ap (λ w. bit_at w (i % 64) == 1) (each (i / 64) h) ∙ bit_or_tests (get_or old (i / 64) 0) (get_or from (i / 64) 0) (i % 64)
      | inr h ↦
          rw (get_or_past old (i / 64) 0 h, get_or_past from (i / 64) 0 (omega arith), get_or_past new (i / 64) 0 (omega arith), bit_at-zero (i % 64)) refl
    ]

pub bit_past : (row : List ℕ) (i : ℕ) → length row ≤ i / 64 → bit_of row i ≡ false
bit_past row i h = rw (get_or_past row (i / 64) 0 h, bit_at-zero (i % 64)) refl

-- the lowest bit of the first word that has a bit missing in the other
missing_tests : (a b i : ℕ) → a < 2 ^ 64 → b < 2 ^ 64 → i < 64 → bit_at (bit_and a (bit_not w64 b)) i ≡ min (bit_at a i) (1 - bit_at b i)
missing_tests a b i a_fits b_fits i_in = bit_at_and a (bit_not w64 b) i ∙ ap (λ n. min (bit_at a i) n) (bit_at_not w64 b i b_fits i_in)

both_from_min : (a b : ℕ) → a < 2 → b < 2 → min a (1 - b) ≡ 1 → (a ≡ 1) × (b ≡ 0)
both_from_min a b a_bit b_bit h = omega arith

within_from_min : (a b : ℕ) → a < 2 → b < 2 → min a (1 - b) ≡ 0 → a ≡ 1 → b ≡ 1
within_from_min a b a_bit b_bit h e = omega arith

place : (i t : ℕ) → t < 64 → ((i * 64 + t) / 64 ≡ i) × ((i * 64 + t) % 64 ≡ t)
place i t t_in = (omega arith, omega arith)

here_test : (row : List ℕ) (i w t v : ℕ) → i / 64 ≡ w → i % 64 ≡ t → bit_at (get_or row w 0) t ≡ v → bit_of row i ≡ (v == 1)
here_test row i w t v p q e = ap (λ k. bit_at (get_or row k 0) (i % 64) == 1) p ∙ ap (λ k. bit_at (get_or row w 0) k == 1) q ∙ ap (λ n. n == 1) e

abbrev pub missing : ℕ → ℕ → ℕ
missing a b = bit_and a (bit_not w64 b)

pub missing_found :
    (row other : List ℕ) (i : ℕ)
    → get_or row i 0 < 2 ^ 64
    → get_or other i 0 < 2 ^ 64
    → i < length row
    → missing (get_or row i 0) (get_or other i 0) < 2 ^ 64
    → ¬ (missing (get_or row i 0) (get_or other i 0) ≡ 0)
    → HasBit row (i * 64 + trailing_zeros w64 (missing (get_or row i 0) (get_or other i 0)))
    × (bit_of other (i * 64 + trailing_zeros w64 (missing (get_or row i 0) (get_or other i 0))) ≡ false)
    × (i * 64 + trailing_zeros w64 (missing (get_or row i 0) (get_or other i 0)) < length row * 64)
missing_found row other i row_fits other_fits i_in m_fits some =
    let m = missing (get_or row i 0) (get_or other i 0) in
    let positive : 0 < m = omega arith in
    let found = bit_at-trailing_zeros w64 m positive m_fits in
    let t = trailing_zeros w64 m in
    let t_in : t < 64 = found.0 in
    let split = both_from_min (bit_at (get_or row i 0) t) (bit_at (get_or other i 0) t) (bit_at-lt (get_or row i 0) t) (bit_at-lt (get_or other i 0) t)
    (sym (missing_tests (get_or row i 0) (get_or other i 0) t row_fits other_fits t_in) ∙ found.1) in
    let here = place i t t_in in (
      here_test row (i * 64 + t) i t 1 here.0 here.1 split.0,
      here_test other (i * 64 + t) i t 0 here.0 here.1 split.1,
      omega arith,
    )

-- a bit that a word does not lack of another's
bit_within :
    (row other : List ℕ) (k : ℕ)
    → get_or row k 0 < 2 ^ 64
    → get_or other k 0 < 2 ^ 64
    → (i : ℕ)
    → i / 64 ≡ k
    → bit_at (missing (get_or row k 0) (get_or other k 0)) (i % 64) ≡ 0
    → HasBit row i
    → HasBit other i
bit_within row other k row_fits other_fits i at nothing h =
    let a : ℕ = get_or row k 0 in
    let b : ℕ = get_or other k 0 in
    let has : bit_at a (i % 64) ≡ 1 = eqb-true (bit_at a (i % 64)) 1 (subst (λ m. (bit_at (get_or row m 0) (i % 64) == 1) ≡ true) at h) in
    let also = within_from_min (bit_at a (i % 64)) (bit_at b (i % 64)) (bit_at-lt a (i % 64)) (bit_at-lt b (i % 64))
    (sym (missing_tests a b (i % 64) row_fits other_fits (in_word i)) ∙ nothing) has in
    subst (λ m. (bit_at (get_or other m 0) (i % 64) == 1) ≡ true) (sym at) (eq-eqb (bit_at b (i % 64)) 1 also)

-- a word that lacks no bit of another's
pub word_within :
    (row other : List ℕ) (k : ℕ)
    → get_or row k 0 < 2 ^ 64
    → get_or other k 0 < 2 ^ 64
    → missing (get_or row k 0) (get_or other k 0) ≡ 0
    → (i : ℕ)
    → i / 64 ≡ k
    → HasBit row i
    → HasBit other i
word_within row other k row_fits other_fits none i at =
    bit_within row other k row_fits other_fits i at (ap (λ n. bit_at n (i % 64)) none ∙ bit_at-zero (i % 64))

-- before the lowest bit of the first word that lacks one, none is missing
pub none_before :
    (row other : List ℕ) (i : ℕ)
    → ((k : ℕ) → get_or row k 0 < 2 ^ 64)
    → ((k : ℕ) → get_or other k 0 < 2 ^ 64)
    → ((k : ℕ) → k < i → missing (get_or row k 0) (get_or other k 0) ≡ 0)
    → missing (get_or row i 0) (get_or other i 0) < 2 ^ 64
    → ¬ (missing (get_or row i 0) (get_or other i 0) ≡ 0)
    → (j : ℕ)
    → j < i * 64 + trailing_zeros w64 (missing (get_or row i 0) (get_or other i 0))
    → HasBit row j
    → HasBit other j
none_before row other i row_fits other_fits before m_fits some j j_in h =
    let m = missing (get_or row i 0) (get_or other i 0) in
    let positive : 0 < m = omega arith in
    let found = bit_at-trailing_zeros w64 m positive m_fits in
    let t = trailing_zeros w64 m in
    let t_in : t < 64 = found.0 in
    elim (cases_lt (j / 64) i) [
      | inl lt ↦ word_within row other (j / 64) (row_fits (j / 64)) (other_fits (j / 64)) (before (j / 64) lt) j refl h
      | inr from ↦
          let at : j / 64 ≡ i = omega arith in
          let below : j % 64 < t = omega arith in
          bit_within row other i (row_fits i) (other_fits i) j at (found.2 (j % 64) below) h
    ]

pub none_missing :
    (row other : List ℕ)
    → ((i : ℕ) → get_or row i 0 < 2 ^ 64)
    → ((i : ℕ) → get_or other i 0 < 2 ^ 64)
    → ((i : ℕ) → i < length row → missing (get_or row i 0) (get_or other i 0) ≡ 0)
    → (i : ℕ)
    → HasBit row i
    → HasBit other i
none_missing row other row_fits other_fits none i h =
    elim (cases_lt (i / 64) (length row)) [
      | inl in_row ↦ word_within row other (i / 64) (row_fits (i / 64)) (other_fits (i / 64)) (none (i / 64) in_row) i refl h
      | inr past ↦ absurd (false≢true (sym (bit_past row i past) ∙ h))
    ]
