-- Rows of a table joined over marks, by words.
use Rattle.std.proofs.Common.{◌≡◌, ℕ, ◌+◌, ◌-◌, ◌*◌, ◌/◌, ◌%◌, ◌<◌, ◌≤◌, ◌↔◌, ◌⊎◌, ◌||◌, ◌==◌, inl, inr, false, List, get_or, sym, ap, ◌∙◌, subst, arith, bit_or}
use Rattle.std.specs.Int.{bit_at}
use Rattle.std.proofs.lemmas.Bool.{cases_lt, false≢true, or_cases, or_left, or_right}
use Rattle.auto_core.specs.Rows.{HasBit, HasCell, bit_of, cell_of}
use Rattle.auto_core.specs.Reach.{IsTable, HasArc}
use Rattle.auto_core.proofs.BitLemmas.{bit_or_tests}
use Rattle.auto_core.proofs.CellLemmas.{cell_at}
use Rattle.graph_rows.specs.Added.{HasAdded, IsUnionOfRows}
use Rattle.graph_rows.proofs.AddedLemmas.{added_then}
use Rattle.graph_rows.proofs.ExtensionLemmas.{Through, through_none, through_more, through_all}

-- the word of a bit that comes after so many words, and its place in it
word_after : (first i : ℕ) → ((first * 64 + i) / 64 ≡ first + i / 64) × ((first * 64 + i) % 64 ≡ i % 64)
word_after first i = (omega arith, omega arith)

-- words changed by the 'or' with those of a table, from a word on, and those of a table by the 'or' with words
pub words_ored :
    (old table new : List ℕ) (first len : ℕ)
    → ((k : ℕ) → k < len → get_or new k 0 ≡ bit_or (get_or old k 0) (get_or table (first + k) 0))
    → (i : ℕ)
    → i < len * 64
    → bit_of new i ≡ (bit_of old i || bit_of table (first * 64 + i))
words_ored old table new first len each i i_in =
    let word_in : i / 64 < len = omega arith in
    let at = word_after first i in
    rw (at.0, at.1)
    (ap (λ n. bit_at n (i % 64) == 1) (each (i / 64) word_in) ∙ bit_or_tests (get_or old (i / 64) 0) (get_or table (first + i / 64) 0) (i % 64))

pub cells_ored :
    (old words new : List ℕ) (width row first len : ℕ)
    → ((k : ℕ) → k < len → get_or new (row * width + first + k) 0 ≡ bit_or (get_or old (row * width + first + k) 0) (get_or words k 0))
    → (i : ℕ)
    → i < len * 64
    → cell_of new width row (first * 64 + i) ≡ (cell_of old width row (first * 64 + i) || bit_of words i)
cells_ored old words new width row first len each i i_in =
    let word_in : i / 64 < len = omega arith in
    let at = word_after first i in
    let same = plus (row * width) first (i / 64) in
    rw (cell_at new width row (first * 64 + i), cell_at old width row (first * 64 + i), at.0, at.1, same)
    (ap (λ n. bit_at n (i % 64) == 1) (each (i / 64) word_in) ∙ bit_or_tests (get_or old (row * width + first + i / 64) 0) (get_or words (i / 64) 0) (i % 64))
  where
    plus : (x y z : ℕ) → x + (y + z) ≡ x + y + z
    plus x y z = omega arith

pub cells_beside :
    (old new : List ℕ) (width row first len : ℕ)
    → ((k : ℕ) → row * width + first + len ≤ k → get_or new k 0 ≡ get_or old k 0)
    → ((k : ℕ) → k < row * width + first → get_or new k 0 ≡ get_or old k 0)
    → (q : ℕ)
    → (q < first * 64) ⊎ ((first + len) * 64 ≤ q)
    → cell_of new width row q ≡ cell_of old width row q
cells_beside old new width row first len after before q aside =
    let same : get_or new (row * width + q / 64) 0 ≡ get_or old (row * width + q / 64) 0 =
    elim aside [
      | inl low ↦ before (row * width + q / 64) (omega arith)
      | inr high ↦ after (row * width + q / 64) (omega arith)
    ] in
    rw (cell_at new width row q, cell_at old width row q) (ap (λ n. bit_at n (q % 64) == 1) same)

-- The bits of the words say, from the column on, what R leads to from the marked places before `upto`.
abbrev pub HasGathered : (ℕ → Type 0) → (ℕ → ℕ → Type 0) → ℕ → ℕ → ℕ → List ℕ → Type 0
HasGathered From R upto column len words = (i : ℕ) → i < len → HasBit words i ↔ Through From upto R (column + i)

pub gathered_none :
    (From : ℕ → Type 0) (R : ℕ → ℕ → Type 0) (column len : ℕ) (words : List ℕ)
    → ((i : ℕ) → bit_of words i ≡ false)
    → HasGathered From R 0 column len words
gathered_none From R column len words clear i i_in = (
  λ bit. absurd (false≢true (sym (clear i) ∙ bit)),
  λ t. absurd (through_none From R (column + i) t),
)

pub gathered_more :
    (table marks moves old new : List ℕ) (n width at middle column len first : ℕ)
    → IsTable table n width
    → middle < n
    → column + len ≤ width * 64
    → at ≤ middle
    → HasBit marks middle
    → ((k : ℕ) → at ≤ k → k < middle → bit_of marks k ≡ false)
    → first * 64 ≡ column
    → ((q : ℕ) → q < width * 64 → bit_of moves q ≡ cell_of table width middle q)
    → ((i : ℕ) → i < len → bit_of new i ≡ (bit_of old i || bit_of moves (first * 64 + i)))
    → HasGathered (HasBit marks) (HasArc table n width) at column len old
    → HasGathered (HasBit marks) (HasArc table n width) (middle + 1) column len new
gathered_more table marks moves old new n width at middle column len first t middle_in room from here none begins is each before i i_in =
    let q_in : column + i < width * 64 = omega arith in
    let now : bit_of new i ≡ (bit_of old i || bit_of moves (column + i)) =
    subst (λ x. bit_of new i ≡ (bit_of old i || bit_of moves (x + i))) begins (each i i_in) in
    let more = through_more (HasBit marks) at middle (HasArc table n width) (HasArc table n width middle) from here
    (λ k k_from k_to h. false≢true (sym (none k k_from k_to) ∙ h)) (column + i) (λ h. h, λ h. h) in (
      λ bit. more.1 (elim (or_cases (bit_of old i) (bit_of moves (column + i)) (sym now ∙ bit)) [
        | inl was ↦ inl ((before i i_in).0 was)
        | inr has ↦
            let cell : HasCell table width middle (column + i) = sym (is (column + i) q_in) ∙ has in
            inr (middle_in, t.columns middle (column + i) middle_in q_in cell, cell)
      ]),
      λ through. now ∙ elim (more.0 through) [
        | inl was ↦ or_left (bit_of old i) (bit_of moves (column + i)) ((before i i_in).1 was)
        | inr (_, _, cell) ↦ or_right (bit_of old i) (bit_of moves (column + i)) (is (column + i) q_in ∙ cell)
      ],
    )

pub gathered_all :
    (marks words : List ℕ) (R : ℕ → ℕ → Type 0) (at column len : ℕ)
    → ((k : ℕ) → at ≤ k → bit_of marks k ≡ false)
    → HasGathered (HasBit marks) R at column len words
    → IsUnionOfRows (HasBit marks) R column len words
gathered_all marks words R at column len none so_far i i_in =
    let all = through_all (HasBit marks) at R (λ k k_from h. false≢true (sym (none k k_from) ∙ h)) (column + i) in (
      λ bit. all.0 ((so_far i i_in).0 bit),
      λ follows. (so_far i i_in).1 (all.1 follows),
    )

-- Some columns of a row.
abbrev pub Within : ℕ → ℕ → (ℕ → Type 0) → ℕ → Type 0
Within column len F q = (column ≤ q) × (q < column + len) × F q

module _
    (old new words : List ℕ) (width row column len : ℕ) (F : ℕ → Type 0)
    (is : (i : ℕ) → i < len → HasBit words i ↔ F (column + i))
    (here : (i : ℕ) → i < len → cell_of new width row (column + i) ≡ (cell_of old width row (column + i) || bit_of words i))
    (beside : (q : ℕ) → q < width * 64 → (q < column) ⊎ (column + len ≤ q) → cell_of new width row q ≡ cell_of old width row q)
    (others : (r q : ℕ) → q < width * 64 → ¬ (r ≡ row) → cell_of new width r q ≡ cell_of old width r q) where
  inside : (i : ℕ) → i < len → HasCell new width row (column + i) ↔ (HasCell old width row (column + i) ⊎ F (column + i))
  inside i i_in = (
    λ bit. elim (or_cases (cell_of old width row (column + i)) (bit_of words i) (sym (here i i_in) ∙ bit)) [
      | inl was ↦ inl was
      | inr one ↦ inr ((is i i_in).0 one)
    ],
    λ either. here i i_in ∙ elim either [
      | inl was ↦ or_left (cell_of old width row (column + i)) (bit_of words i) was
      | inr one ↦ or_right (cell_of old width row (column + i)) (bit_of words i) ((is i i_in).1 one)
    ],
  )

  -- a column that the words do not have
  aside :
      (q : ℕ)
      → (column ≤ q → q < column + len → ⊥)
      → cell_of new width row q ≡ cell_of old width row q
      → HasCell new width row q ↔ (HasCell old width row q ⊎ Within column len F q)
  aside q apart same = (
    λ cell. inl (sym same ∙ cell),
    λ either. elim either [ inl was ↦ same ∙ was | inr (from, to, one) ↦ absurd (apart from to) ],
  )

  pub words_added : HasAdded width row (Within column len F) old new
  words_added = record {
    here = λ q q_in. elim (cases_lt q column) [
      | inl low ↦ aside q (λ from to. omega arith) (beside q q_in (inl low))
      | inr from ↦ elim (cases_lt q (column + len)) [
        | inl to ↦
            let same : column + (q - column) ≡ q = omega arith in
            let P : ℕ → Type 0 = λ x. HasCell new width row x ↔ (HasCell old width row x ⊎ F x) in
            let both = subst P same (inside (q - column) (omega arith)) in (
              λ cell. elim (both.0 cell) [ inl was ↦ inl was | inr one ↦ inr (from, to, one) ],
              λ either. both.1 (elim either [ inl was ↦ inl was | inr (_, _, one) ↦ inr one ]),
            )
        | inr high ↦ aside q (λ a b. omega arith) (beside q q_in (inr high))
      ]
    ];
    others = others;
  }

-- both halves of a row
pub halves_added :
    (old now new : List ℕ) (width row half : ℕ) (F : ℕ → Type 0)
    → half ≤ width
    → width ≤ half + half
    → HasAdded width row (Within 0 (half * 64) F) old now
    → HasAdded width row (Within ((width - half) * 64) (half * 64) F) now new
    → HasAdded width row F old new
halves_added old now new width row half F fits enough first second =
    added_then width row (Within 0 (half * 64) F) (Within ((width - half) * 64) (half * 64) F) F old now new
    (λ q q_in. (
      λ one. elim (cases_lt q (half * 64)) [
        | inl low ↦ inl (omega arith, omega arith, one)
        | inr high ↦ inr (omega arith, omega arith, one)
      ],
      λ either. elim either [ inl (_, _, one) ↦ one | inr (_, _, one) ↦ one ],
    ))
    first second
