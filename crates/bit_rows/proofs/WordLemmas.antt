-- Bits of words and rows.
use Rattle.std.proofs.Common.{◌≡◌, ℕ, ◌+◌, ◌-◌, ◌*◌, ◌/◌, ◌%◌, ◌^◌, ◌<◌, ◌≤◌, inl, inr, ◌==◌, false, ◌&&◌, List, length, get_or, refl, sym, ap, ◌∙◌, arith, min, bit_and, bit_or, w64}
use Rattle.std.specs.Int.{bit_at, trailing_zeros}
use Rattle.std.proofs.lemmas.Bool.{cases_eq, cases_lt}
use Rattle.std.proofs.lemmas.Bool.Decides.{nat_tests}
use Rattle.std.proofs.lemmas.Nat.{shr-shr, shr_le, le_or_l, le_or_r}
use Rattle.std.proofs.lemmas.Nat.Bits.{bit_at-lt, bit_at-zero, bit_at_and, bit_at-trailing_zeros, bit_at_above}
use Rattle.auto_core.specs.Rows.{bit_of, cell_of}
use Rattle.auto_core.proofs.BitLemmas.{bit_past}
use Rattle.auto_core.proofs.CellLemmas.{cell_at}
use Rattle.bit_rows.specs.Walks.{IsNextBit}

and_tests : (a b : ℕ) → a < 2 → b < 2 → (min a b == 1) ≡ ((a == 1) && (b == 1))
and_tests a b a_bit b_bit = grind (arith, nat_tests)

pub bit_and_tests : (a b i : ℕ) → (bit_at (bit_and a b) i == 1) ≡ ((bit_at a i == 1) && (bit_at b i == 1))
bit_and_tests a b i = ap (λ n. n == 1) (bit_at_and a b i) ∙ and_tests (bit_at a i) (bit_at b i) (bit_at-lt a i) (bit_at-lt b i)

-- the words of one row narrowed by another row's
pub row_anded :
    (table new with : List ℕ) (w p : ℕ)
    → ((k : ℕ) → k < w → get_or new (p * w + k) 0 ≡ bit_and (get_or table (p * w + k) 0) (get_or with k 0))
    → (q : ℕ)
    → q < w * 64
    → cell_of new w p q ≡ (cell_of table w p q && bit_of with q)
row_anded table new with w p each q q_in =
    let word_in : q / 64 < w = omega arith in
    rw (cell_at new w p q, cell_at table w p q)
    (ap (λ n. bit_at n (q % 64) == 1) (each (q / 64) word_in) ∙ bit_and_tests (get_or table (p * w + q / 64) 0) (get_or with (q / 64) 0) (q % 64))

-- the words of one row made those of another
pub row_written :
    (new from : List ℕ) (w p : ℕ)
    → ((k : ℕ) → k < w → get_or new (p * w + k) 0 ≡ get_or from k 0)
    → (q : ℕ)
    → q < w * 64
    → cell_of new w p q ≡ bit_of from q
row_written new from w p each q q_in =
    let word_in : q / 64 < w = omega arith in
    rw (cell_at new w p q) (ap (λ n. bit_at n (q % 64) == 1) (each (q / 64) word_in))

-- a bit of a word that was shifted down
bit_of_shifted : (n k i : ℕ) → bit_at (n / 2 ^ k) i ≡ bit_at n (k + i)
bit_of_shifted n k i = ap (λ m. m % 2) (shr-shr n k i)

-- the bit of a row by its word and its place in the word
bit_here : (row : List ℕ) (i w t v : ℕ) → i / 64 ≡ w → i % 64 ≡ t → bit_at (get_or row w 0) t ≡ v → bit_of row i ≡ (v == 1)
bit_here row i w t v p q e = ap (λ k. bit_at (get_or row k 0) (i % 64) == 1) p ∙ ap (λ k. bit_at (get_or row w 0) k == 1) q ∙ ap (λ n. n == 1) e

-- a bit whose word is zero
pub bit_of_zero_word : (row : List ℕ) (i : ℕ) → get_or row (i / 64) 0 ≡ 0 → bit_of row i ≡ false
bit_of_zero_word row i e = ap (λ n. bit_at n (i % 64) == 1) e ∙ ap (λ n. n == 1) (bit_at-zero (i % 64))

-- the rest of a word after a shift has few bits
shifted_short :
    (word s : ℕ)
    → word < 2 ^ 64
    → s < 64
    → ¬ (word / 2 ^ s ≡ 0)
    → s + trailing_zeros w64 (word / 2 ^ s) < 64
shifted_short word s fits s_in some =
    let rest = word / 2 ^ s in
    let positive : 0 < rest = omega arith in
    let small : rest < 2 ^ 64 = (let le = shr_le word s in omega arith) in
    let found = bit_at-trailing_zeros w64 rest positive small in
    let one : bit_at word (s + trailing_zeros w64 rest) ≡ 1 = sym (bit_of_shifted word s (trailing_zeros w64 rest)) ∙ found.1 in
    elim (cases_lt (s + trailing_zeros w64 rest) 64) [
      | inl h ↦ h
      | inr past ↦ let zero = bit_at_above word 64 (s + trailing_zeros w64 rest) fits past in absurd (omega arith)
    ]

-- the rest of the first word has a bit: its lowest one is the next bit
pub next_in_first :
    (row : List ℕ) (from : ℕ)
    → from / 64 < length row
    → get_or row (from / 64) 0 < 2 ^ 64
    → ¬ (get_or row (from / 64) 0 / 2 ^ (from % 64) ≡ 0)
    → IsNextBit row from (from + trailing_zeros w64 (get_or row (from / 64) 0 / 2 ^ (from % 64)))
next_in_first row from in_row fits some =
    let word = get_or row (from / 64) 0 in
    let rest = word / 2 ^ (from % 64) in
    let positive : 0 < rest = omega arith in
    let le = shr_le word (from % 64) in
    let found = bit_at-trailing_zeros w64 rest positive (omega arith) in
    let t = trailing_zeros w64 rest in
    let short : from % 64 + t < 64 = shifted_short word (from % 64) fits (omega arith) some in
    let one : bit_at word (from % 64 + t) ≡ 1 = sym (bit_of_shifted word (from % 64) t) ∙ found.1 in
    record {
      here = bit_here row (from + t) (from / 64) (from % 64 + t) 1 (omega arith) (omega arith) one;
      behind = omega arith;
      within = omega arith;
      none_between = λ j j_from j_below.
          let place : from % 64 + (j - from) ≡ j % 64 = omega arith in
          let zero : bit_at word (from % 64 + (j - from)) ≡ 0 = sym (bit_of_shifted word (from % 64) (j - from)) ∙ found.2 (j - from) (omega arith) in
          bit_here row j (from / 64) (from % 64 + (j - from)) 0 (omega arith) (sym place) zero;
    }

-- it has none: no bit from there on to the word's end
pub none_in_first :
    (row : List ℕ) (from : ℕ)
    → get_or row (from / 64) 0 / 2 ^ (from % 64) ≡ 0
    → (j : ℕ)
    → from ≤ j
    → j / 64 ≡ from / 64
    → bit_of row j ≡ false
none_in_first row from none j j_from same =
    let word = get_or row (from / 64) 0 in
    let place : from % 64 + (j - from) ≡ j % 64 = omega arith in
    let zero : bit_at word (from % 64 + (j - from)) ≡ 0 =
    sym (bit_of_shifted word (from % 64) (j - from)) ∙ ap (λ n. bit_at n (j - from)) none ∙ bit_at-zero (j - from) in
    bit_here row j (from / 64) (from % 64 + (j - from)) 0 same (sym place) zero

-- the lowest bit of the first later word that has one
pub next_in_later :
    (row : List ℕ) (from at : ℕ)
    → at < length row
    → from / 64 < at
    → get_or row (from / 64) 0 / 2 ^ (from % 64) ≡ 0
    → ((k : ℕ) → from / 64 < k → k < at → get_or row k 0 ≡ 0)
    → get_or row at 0 < 2 ^ 64
    → ¬ (get_or row at 0 ≡ 0)
    → IsNextBit row from (at * 64 + trailing_zeros w64 (get_or row at 0))
next_in_later row from at at_in later none zeros fits some =
    let word = get_or row at 0 in
    let positive : 0 < word = omega arith in
    let found = bit_at-trailing_zeros w64 word positive fits in
    let t = trailing_zeros w64 word in
    let t_in : t < 64 = found.0 in
    record {
      here = bit_here row (at * 64 + t) at t 1 (omega arith) (omega arith) found.1;
      behind = omega arith;
      within = omega arith;
      none_between = λ j j_from j_below. elim (cases_eq (j / 64) at) [
        | inl e ↦ bit_here row j at (j % 64) 0 e refl (found.2 (j % 64) (omega arith))
        | inr apart ↦ elim (cases_eq (j / 64) (from / 64)) [
          | inl e ↦ none_in_first row from none j j_from e
          | inr away ↦ bit_of_zero_word row j (zeros (j / 64) (omega arith) (omega arith))
        ]
      ];
    }

-- no word has one
pub none_at_all :
    (row : List ℕ) (from : ℕ)
    → get_or row (from / 64) 0 / 2 ^ (from % 64) ≡ 0
    → ((k : ℕ) → from / 64 < k → k < length row → get_or row k 0 ≡ 0)
    → (j : ℕ)
    → from ≤ j
    → bit_of row j ≡ false
none_at_all row from none zeros j j_from = elim (cases_lt (j / 64) (length row)) [
  | inl in_row ↦ elim (cases_eq (j / 64) (from / 64)) [
    | inl e ↦ none_in_first row from none j j_from e
    | inr away ↦ bit_of_zero_word row j (zeros (j / 64) (omega arith) in_row)
  ]
  | inr past ↦ bit_past row j past
]

-- four words whose 'or' is zero
pub four_zero :
    (row : List ℕ) (at : ℕ)
    → bit_or (bit_or (bit_or (get_or row at 0) (get_or row (at + 1) 0)) (get_or row (at + 2) 0)) (get_or row (at + 3) 0) ≡ 0
    → (k : ℕ)
    → at ≤ k
    → k < at + 4
    → get_or row k 0 ≡ 0
four_zero row at none k k_from k_in =
    let a = get_or row at 0 in
    let b = get_or row (at + 1) 0 in
    let c = get_or row (at + 2) 0 in
    let d = get_or row (at + 3) 0 in
    let ab : bit_or a b ≤ bit_or (bit_or a b) c = le_or_l (bit_or a b) c in
    let abc : bit_or (bit_or a b) c ≤ bit_or (bit_or (bit_or a b) c) d = le_or_l (bit_or (bit_or a b) c) d in
    let la : a ≤ bit_or a b = le_or_l a b in
    let lb : b ≤ bit_or a b = le_or_r a b in
    let lc : c ≤ bit_or (bit_or a b) c = le_or_r (bit_or a b) c in
    let ld : d ≤ bit_or (bit_or (bit_or a b) c) d = le_or_r (bit_or (bit_or a b) c) d in
    elim (cases_eq k at) [
      | inl e ↦ ap (λ x. get_or row x 0) e ∙ omega arith
      | inr n0 ↦ elim (cases_eq k (at + 1)) [
        | inl e ↦ ap (λ x. get_or row x 0) e ∙ omega arith
        | inr n1 ↦ elim (cases_eq k (at + 2)) [
          | inl e ↦ ap (λ x. get_or row x 0) e ∙ omega arith
          | inr n2 ↦
              let e : k ≡ at + 3 = omega arith in
              ap (λ x. get_or row x 0) e ∙ omega arith
        ]
      ]
    ]

-- the cells of a table's first row are its bits
pub first_cell : (table : List ℕ) (width q : ℕ) → cell_of table width 0 q ≡ bit_of table q
first_cell table width q = let e : 0 * width * 64 + q ≡ q = omega arith in ap (bit_of table) e

-- a row of zeros
pub row_cleared :
    (table : List ℕ) (w row : ℕ)
    → ((k : ℕ) → k < w → get_or table (row * w + k) 0 ≡ 0)
    → (q : ℕ)
    → q < w * 64
    → cell_of table w row q ≡ false
row_cleared table w row zeros q q_in =
    rw (cell_at table w row q) (ap (λ n. bit_at n (q % 64) == 1) (zeros (q / 64) (omega arith)) ∙ ap (λ n. n == 1) (bit_at-zero (q % 64)))
