-- Cells of tables as bits.
use Rattle.std.proofs.Common.{◌≡◌, ℕ, ◌+◌, ◌*◌, ◌/◌, ◌%◌, ◌^◌, ◌<◌, ◌≤◌, inl, inr, ◌==◌, true, false, ◌||◌, List, length, get_or, set, refl, ap, ◌∙◌, subst, arith, bit_and, bit_or, w64, mul_assoc}
use Rattle.std.specs.Int.{bit_at, bit_not}
use Rattle.std.proofs.lemmas.Bool.{cases_lt}
use Rattle.std.proofs.lemmas.Nat.{same_from_place, row_fits}
use Rattle.auto_core.specs.Rows.{bit_of, cell_of}
use Rattle.auto_core.proofs.BitLemmas.{set_here, set_others, clear_here, clear_others, bit_or_tests}

-- the word and the place in it of a cell
pub word_of_cell : (p w q : ℕ) → ((p * w * 64 + q) / 64 ≡ p * w + q / 64) × ((p * w * 64 + q) % 64 ≡ q % 64)
word_of_cell p w q = let m = p * w in words m q
  where
    words : (m q : ℕ) → ((m * 64 + q) / 64 ≡ m + q / 64) × ((m * 64 + q) % 64 ≡ q % 64)
    words m q = (omega arith, omega arith)

pub cell_at : (table : List ℕ) (w p q : ℕ) → cell_of table w p q ≡ (bit_at (get_or table (p * w + q / 64) 0) (q % 64) == 1)
cell_at table w p q =
    let at = word_of_cell p w q in
    rw (at.0, at.1) refl

-- cells of different places are different bits
pub cells_apart : (w p q r s : ℕ) → q < w * 64 → s < w * 64 → ¬ ((r ≡ p) × (s ≡ q)) → ¬ (r * w * 64 + s ≡ p * w * 64 + q)
cells_apart w p q r s q_in s_in apart e =
    apart (same_from_place r s p q (w * 64) s_in q_in (rw (← mul_assoc r w 64, ← mul_assoc p w 64) e))

module _ (table : List ℕ) (w p q : ℕ) (in_table : p * w + w ≤ length table) (q_in : q < w * 64) where
  bit : ℕ
  bit = p * w * 64 + q

  at_word : bit / 64 ≡ p * w + q / 64
  unfolding bit
  at_word = (word_of_cell p w q).0

  at_bit : bit % 64 ≡ q % 64
  unfolding bit
  at_bit = (word_of_cell p w q).1

  word_in : bit / 64 < length table
  word_in = omega (arith, at_word)

  with_bit : ℕ → ℕ → List ℕ
  with_bit k t = set table k (bit_or (get_or table k 0) (1 * 2 ^ t % 2 ^ 64))

  without_bit : ℕ → ℕ → List ℕ
  without_bit k t = set table k (bit_and (get_or table k 0) (bit_not w64 (1 * 2 ^ t % 2 ^ 64)))

  set_cell_here : bit_of (with_bit (p * w + q / 64) (q % 64)) bit ≡ true
  unfolding with_bit
  set_cell_here =
      let F : ℕ → Type 0 = λ k. bit_of (with_bit k (bit % 64)) bit ≡ true in
      let G : ℕ → Type 0 = λ t. bit_of (with_bit (p * w + q / 64) t) bit ≡ true in
      subst G at_bit (subst F at_word (set_here table bit word_in))

  clear_cell_here : bit_of (without_bit (p * w + q / 64) (q % 64)) bit ≡ false
  unfolding without_bit
  clear_cell_here =
      let F : ℕ → Type 0 = λ k. bit_of (without_bit k (bit % 64)) bit ≡ false in
      let G : ℕ → Type 0 = λ t. bit_of (without_bit (p * w + q / 64) t) bit ≡ false in
      subst G at_bit (subst F at_word (clear_here table bit word_in))

  set_cell_others : (i : ℕ) → ¬ (i ≡ bit) → bit_of (with_bit (p * w + q / 64) (q % 64)) i ≡ bit_of table i
  unfolding with_bit
  set_cell_others i n =
      let F : ℕ → Type 0 = λ k. bit_of (with_bit k (bit % 64)) i ≡ bit_of table i in
      let G : ℕ → Type 0 = λ t. bit_of (with_bit (p * w + q / 64) t) i ≡ bit_of table i in
      subst G at_bit (subst F at_word (set_others table bit word_in i n))

  clear_cell_others : (i : ℕ) → ¬ (i ≡ bit) → bit_of (without_bit (p * w + q / 64) (q % 64)) i ≡ bit_of table i
  unfolding without_bit
  clear_cell_others i n =
      let F : ℕ → Type 0 = λ k. bit_of (without_bit k (bit % 64)) i ≡ bit_of table i in
      let G : ℕ → Type 0 = λ t. bit_of (without_bit (p * w + q / 64) t) i ≡ bit_of table i in
      subst G at_bit (subst F at_word (clear_others table bit word_in i n))

pub cell_set :
    (table : List ℕ) (w p q : ℕ)
    → p * w + w ≤ length table
    → q < w * 64
    → (cell_of (set table (p * w + q / 64) (bit_or (get_or table (p * w + q / 64) 0) (1 * 2 ^ (q % 64) % 2 ^ 64))) w p q ≡ true)
    × ((r s : ℕ) → s < w * 64 → ¬ ((r ≡ p) × (s ≡ q)) → cell_of (set table (p * w + q / 64) (bit_or (get_or table (p * w + q / 64) 0) (1 * 2 ^ (q % 64) % 2 ^ 64))) w r s ≡ cell_of table w r s)
unfolding bit with_bit
cell_set table w p q in_table q_in = (
  set_cell_here table w p q in_table q_in,
  λ r s s_in apart. set_cell_others table w p q in_table q_in (r * w * 64 + s) (cells_apart w p q r s q_in s_in apart),
)

pub cell_cleared :
    (table : List ℕ) (w p q : ℕ)
    → p * w + w ≤ length table
    → q < w * 64
    → (cell_of (set table (p * w + q / 64) (bit_and (get_or table (p * w + q / 64) 0) (bit_not w64 (1 * 2 ^ (q % 64) % 2 ^ 64)))) w p q ≡ false)
    × ((r s : ℕ) → s < w * 64 → ¬ ((r ≡ p) × (s ≡ q)) → cell_of (set table (p * w + q / 64) (bit_and (get_or table (p * w + q / 64) 0) (bit_not w64 (1 * 2 ^ (q % 64) % 2 ^ 64)))) w r s ≡ cell_of table w r s)
unfolding bit without_bit
cell_cleared table w p q in_table q_in = (
  clear_cell_here table w p q in_table q_in,
  λ r s s_in apart. clear_cell_others table w p q in_table q_in (r * w * 64 + s) (cells_apart w p q r s q_in s_in apart),
)

-- the words of one row changed by the 'or' with another row's
pub row_ored :
    (table new from : List ℕ) (w p : ℕ)
    → ((k : ℕ) → k < w → get_or new (p * w + k) 0 ≡ bit_or (get_or table (p * w + k) 0) (get_or from k 0))
    → (q : ℕ)
    → q < w * 64
    → cell_of new w p q ≡ (cell_of table w p q || bit_of from q)
row_ored table new from w p each q q_in =
    let word_in : q / 64 < w = omega arith in
    rw (cell_at new w p q, cell_at table w p q)
    (ap (λ n. bit_at n (q % 64) == 1) (each (q / 64) word_in) ∙ bit_or_tests (get_or table (p * w + q / 64) 0) (get_or from (q / 64) 0) (q % 64))

pub row_left :
    (table new : List ℕ) (w p : ℕ)
    → ((k : ℕ) → p * w + w ≤ k → get_or new k 0 ≡ get_or table k 0)
    → ((k : ℕ) → k < p * w → get_or new k 0 ≡ get_or table k 0)
    → (r q : ℕ)
    → q < w * 64
    → ¬ (r ≡ p)
    → cell_of new w r q ≡ cell_of table w r q
row_left table new w p after before r q q_in apart =
    let word_in : q / 64 < w = omega arith in
    let same : get_or new (r * w + q / 64) 0 ≡ get_or table (r * w + q / 64) 0 =
    elim (cases_lt r p) [
      | inl h ↦ before (r * w + q / 64) (omega (arith, row_fits r w p w h (omega arith)))
      | inr h ↦ after (r * w + q / 64) (omega (arith, row_fits p w r w (omega arith) (omega arith)))
    ] in
    rw (cell_at new w r q, cell_at table w r q) (ap (λ n. bit_at n (q % 64) == 1) same)
