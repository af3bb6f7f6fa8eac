-- Tables transposed block by block.
use Rattle.std.proofs.Common.{◌≡◌, ℕ, ◌+◌, ◌-◌, ◌*◌, ◌/◌, ◌%◌, ◌<◌, ◌≤◌, ◌↔◌, ◌==◌, inl, inr, false, List, length, slice_index, set, refl, sym, ap, ap₂, ◌∙◌, subst, arith}
use Rattle.std.specs.Int.{bit_at}
use Rattle.std.proofs.lemmas.Bool.{cases_eq, cases_lt, false≢true}
use Rattle.std.proofs.lemmas.List.{get_or-set_same, get_or-set_other, length-set}
use Rattle.std.proofs.lemmas.Nat.{same_from_place}
use Rattle.std.proofs.lemmas.Nat.Bits.{bit_at-zero}
use Rattle.auto_core.specs.Rows.{cell_of, HasCell}
use Rattle.auto_core.proofs.CellLemmas.{cell_at}
use Rattle.bit_rows.specs.Blocks.{bit_in, IsTransposed}

-- a bit of a word of a table
cell_word : (table : List ℕ) (width p word b : ℕ) → b < 64 → cell_of table width p (word * 64 + b) ≡ (bit_at (slice_index table (p * width + word)) b == 1)
cell_word table width p word b near =
    let at : (word * 64 + b) / 64 ≡ word = omega arith in
    let bit : (word * 64 + b) % 64 ≡ b = omega arith in
    cell_at table width p (word * 64 + b) ∙ ap₂ (λ k i. bit_at (slice_index table (p * width + k)) i == 1) at bit

-- the bits of a block that is read, transposed and written
pub turned_here :
    (table turned read made : List ℕ) (width rows span i j c r : ℕ)
    → r / 64 ≡ i
    → c / 64 ≡ j
    → ((k : ℕ) → k < 64 → i * 64 + k < rows → slice_index read k ≡ slice_index table ((i * 64 + k) * width + j))
    → ((k : ℕ) → k < 64 → rows ≤ i * 64 + k → slice_index read k ≡ 0)
    → IsTransposed read made
    → slice_index turned (c * span + i) ≡ slice_index made (c - j * 64)
    → HasCell turned span c r ↔ ((r < rows) × HasCell table width r c)
turned_here table turned read made width rows span i j c r r_at c_at inside past swapped word =
    let r_near : r % 64 < 64 = omega arith in
    let c_near : c % 64 < 64 = omega arith in
    let r_is : r ≡ i * 64 + r % 64 = omega arith in
    let c_is : c ≡ j * 64 + c % 64 = omega arith in
    let column : c - j * 64 ≡ c % 64 = omega arith in
    let same : cell_of turned span c r ≡ (bit_in read (r % 64) (c % 64) == 1) =
    ap (cell_of turned span c) r_is
    ∙ cell_word turned span c i (r % 64) r_near
    ∙ ap (λ w. bit_at w (r % 64) == 1) (word ∙ ap (slice_index made) column)
    ∙ ap (λ n. n == 1) (swapped (c % 64) (r % 64) c_near r_near) in
    let there : cell_of table width (i * 64 + r % 64) c ≡ (bit_at (slice_index table ((i * 64 + r % 64) * width + j)) (c % 64) == 1) =
    ap (cell_of table width (i * 64 + r % 64)) c_is ∙ cell_word table width (i * 64 + r % 64) j (c % 64) c_near in
    elim (cases_lt r rows) [
      | inl below ↦
          let row = inside (r % 64) r_near (omega arith) in
          let both : cell_of turned span c r ≡ cell_of table width r c =
          same ∙ ap (λ w. bit_at w (c % 64) == 1) row ∙ sym there ∙ ap (λ x. cell_of table width x c) (sym r_is) in
          (λ cell. (below, sym both ∙ cell), λ is. both ∙ is.1)
      | inr from ↦
          let row = past (r % 64) r_near (omega arith) in
          let none : cell_of turned span c r ≡ false = same ∙ ap (λ w. bit_at w (c % 64) == 1) row ∙ ap (λ n. n == 1) (bit_at-zero (c % 64)) in
          (λ cell. absurd (false≢true (sym none ∙ cell)), λ is. let lt = is.0 in absurd (omega arith))
    ]

-- the other bits
pub turned_others :
    (old new : List ℕ) (span i j c r : ℕ)
    → r < span * 64
    → ((r / 64 ≡ i) × (c / 64 ≡ j) → ⊥)
    → ((c r : ℕ) → r < span → ((r ≡ i) × (j * 64 ≤ c) × (c < j * 64 + 64) → ⊥) → slice_index new (c * span + r) ≡ slice_index old (c * span + r))
    → cell_of new span c r ≡ cell_of old span c r
turned_others old new span i j c r r_in apart same =
    let near : r % 64 < 64 = omega arith in
    let r_is : r ≡ r / 64 * 64 + r % 64 = omega arith in
    let word = same c (r / 64) (omega arith) (λ is. let le = is.1 in let lt = is.2 in apart (is.0, omega arith)) in
    ap (cell_of new span c) r_is
    ∙ cell_word new span c (r / 64) (r % 64) near
    ∙ ap (λ w. bit_at w (r % 64) == 1) word
    ∙ sym (cell_word old span c (r / 64) (r % 64) near)
    ∙ ap (cell_of old span c) (sym r_is)

-- The first k words of the block are those at this place of the rows from `first` on.
pub record IsReadUpto (table : List ℕ) (width rows first word : ℕ) (block : List ℕ) (k : ℕ) : Type 0 where
  pub len : length block ≡ 64
  pub inside : (j : ℕ) → j < k → first + j < rows → slice_index block j ≡ slice_index table ((first + j) * width + word)
  pub past : (j : ℕ) → j < k → rows ≤ first + j → slice_index block j ≡ 0

pub read_none : (table : List ℕ) (width rows first word : ℕ) (block : List ℕ) → length block ≡ 64 → IsReadUpto table width rows first word block 0
read_none table width rows first word block len = record { len = len; inside = λ j below. absurd (omega arith); past = λ j below. absurd (omega arith) }

pub read_more :
    (table : List ℕ) (width rows first word : ℕ) (block : List ℕ) (k value : ℕ)
    → k < 64
    → IsReadUpto table width rows first word block k
    → (first + k < rows → value ≡ slice_index table ((first + k) * width + word))
    → (rows ≤ first + k → value ≡ 0)
    → IsReadUpto table width rows first word (set block k value) (k + 1)
read_more table width rows first word block k value near is inside past =
    let here : slice_index (set block k value) k ≡ value = get_or-set_same block k value 0 (omega (arith, is.len)) in
    record {
      len = length-set block k value ∙ is.len;
      inside = λ j below in_rows. elim (cases_eq j k) [
        | inl e ↦ subst (λ x. first + x < rows → slice_index (set block k value) x ≡ slice_index table ((first + x) * width + word)) (sym e) (λ at. here ∙ inside at) in_rows
        | inr apart ↦ get_or-set_other block k j value 0 apart ∙ is.inside j (omega arith) in_rows
      ];
      past = λ j below from. elim (cases_eq j k) [
        | inl e ↦ subst (λ x. rows ≤ first + x → slice_index (set block k value) x ≡ 0) (sym e) (λ at. here ∙ past at) from
        | inr apart ↦ get_or-set_other block k j value 0 apart ∙ is.past j (omega arith) from
      ];
    }

-- The rows from `first` on, below `at`, have the words of the block at this place; other words stay.
pub record IsWrittenUpto (old now block : List ℕ) (span first word at : ℕ) : Type 0 where
  pub here : (c : ℕ) → first ≤ c → c < at → slice_index now (c * span + word) ≡ slice_index block (c - first)
  pub others : (c r : ℕ) → r < span → ((r ≡ word) × (first ≤ c) × (c < at) → ⊥) → slice_index now (c * span + r) ≡ slice_index old (c * span + r)

pub written_none : (old block : List ℕ) (span first word : ℕ) → IsWrittenUpto old old block span first word first
written_none old block span first word = record { here = λ c from below. absurd (omega arith); others = λ c r r_in apart. refl }

pub written_more :
    (old now block : List ℕ) (span first word at value : ℕ)
    → word < span
    → at * span + word < length now
    → first ≤ at
    → IsWrittenUpto old now block span first word at
    → value ≡ slice_index block (at - first)
    → IsWrittenUpto old (set now (at * span + word) value) block span first word (at + 1)
written_more old now block span first word at value word_in place from is same = record {
  here = λ c c_from below. elim (cases_eq c at) [
    | inl e ↦
        subst (λ x. slice_index (set now (at * span + word) value) (x * span + word) ≡ slice_index block (x - first)) (sym e)
        (get_or-set_same now (at * span + word) value 0 place ∙ same)
    | inr apart ↦
        get_or-set_other now (at * span + word) (c * span + word) value 0 (λ e. apart (same_from_place c word at word span word_in word_in e).0)
        ∙ is.here c c_from (omega arith)
  ];
  others = λ c r r_in apart.
      get_or-set_other now (at * span + word) (c * span + r) value 0 (λ e. let two = same_from_place c r at word span r_in word_in e in let x = two.0 in apart (two.1, omega arith, omega arith))
      ∙ is.others c r r_in (λ three. let lt = three.2 in apart (three.0, three.1, omega arith));
}

-- The first columns of 64 rows are turned, and the other rows' columns stay.
pub record AreTurnedUpto (table old now : List ℕ) (width rows span columns i j : ℕ) : Type 0 where
  pub here : (c r : ℕ) → c < columns → r / 64 ≡ i → c / 64 < j → HasCell now span c r ↔ ((r < rows) × HasCell table width r c)
  pub others : (c r : ℕ) → r < span * 64 → ¬ (r / 64 ≡ i) → cell_of now span c r ≡ cell_of old span c r

pub turned_none : (table old : List ℕ) (width rows span columns i : ℕ) → AreTurnedUpto table old old width rows span columns i 0
turned_none table old width rows span columns i = record { here = λ c r c_in r_at below. absurd (omega arith); others = λ c r r_in apart. refl }

pub turned_more :
    (table old now new : List ℕ) (width rows span columns i j : ℕ)
    → i < span
    → AreTurnedUpto table old now width rows span columns i j
    → ((c r : ℕ) → c < columns → r / 64 ≡ i → c / 64 ≡ j → HasCell new span c r ↔ ((r < rows) × HasCell table width r c))
    → ((c r : ℕ) → r < span * 64 → ((r / 64 ≡ i) × (c / 64 ≡ j) → ⊥) → cell_of new span c r ≡ cell_of now span c r)
    → AreTurnedUpto table old new width rows span columns i (j + 1)
turned_more table old now new width rows span columns i j i_in is block same = record {
  here = λ c r c_in r_at below. elim (cases_eq (c / 64) j) [
    | inl e ↦ block c r c_in r_at e
    | inr apart ↦
        let kept = same c r (omega arith) (λ two. apart two.1) in
        let was = is.here c r c_in r_at (omega arith) in
        (λ cell. was.0 (sym kept ∙ cell), λ cell. kept ∙ was.1 cell)
  ];
  others = λ c r r_in apart. same c r r_in (λ two. apart two.0) ∙ is.others c r r_in apart;
}

-- The first rows are turned.
abbrev pub AreRowsTurned : List ℕ → List ℕ → ℕ → ℕ → ℕ → ℕ → ℕ → Type 0
AreRowsTurned table now width rows span columns i = (c r : ℕ) → c < columns → r / 64 < i → HasCell now span c r ↔ ((r < rows) × HasCell table width r c)

pub rows_more :
    (table now new : List ℕ) (width rows span columns i : ℕ)
    → i < span
    → AreRowsTurned table now width rows span columns i
    → ((c r : ℕ) → c < columns → r / 64 ≡ i → HasCell new span c r ↔ ((r < rows) × HasCell table width r c))
    → ((c r : ℕ) → r < span * 64 → ¬ (r / 64 ≡ i) → cell_of new span c r ≡ cell_of now span c r)
    → AreRowsTurned table new width rows span columns (i + 1)
rows_more table now new width rows span columns i i_in is row same c r c_in below = elim (cases_eq (r / 64) i) [
  | inl e ↦ row c r c_in e
  | inr apart ↦
      let kept = same c r (omega arith) apart in
      let was = is c r c_in (omega arith) in
      (λ cell. was.0 (sym kept ∙ cell), λ cell. kept ∙ was.1 cell)
]
