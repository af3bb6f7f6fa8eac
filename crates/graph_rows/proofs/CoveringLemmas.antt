-- Rows with a bit in common, and covering word by word.
use Rattle.std.proofs.Common.{◌≡◌, ℕ, ◌+◌, ◌-◌, ◌*◌, ◌^◌, ◌/◌, ◌%◌, ◌==◌, ◌&&◌, ◌<◌, ◌↔◌, ◌⊎◌, inl, inr, Bool, true, false, List, [], ◌∷◌, ◌||◌, get_or, bit_and, bit_or, min, refl, sym, ap, ◌∙◌, subst, arith, w64}
use Rattle.std.specs.Int.{bit_at, bit_not}
use Rattle.std.proofs.lemmas.Bool.{cases_eq, cases_lt, cases_Bool, or_cases, or_left, or_right, false≢true}
use Rattle.std.proofs.lemmas.Bool.Decides.{nat_tests}
use Rattle.std.proofs.lemmas.Nat.Bits.{bit_at_and, bit_at_not, bit_at-lt}
use Rattle.std.specs.Int.Bits.{and_lt}
use Rattle.auto_core.specs.Rows.{HasBit, HasCell, bit_of, cell_of}
use Rattle.auto_core.proofs.BitLemmas.{bit_or_tests, bit_past}
use Rattle.auto_core.proofs.CellLemmas.{cell_at}
use Rattle.bit_rows.proofs.WordLemmas.{bit_and_tests}
use Rattle.graph_rows.specs.Covering.{IsTargetAnswered, AreOwnAnswers}

-- rows that meet, as an arc to a related state
pub meeting_arcs :
    (P S : ℕ → Type 0) (row other : List ℕ) (told : Bool)
    → ((q : ℕ) → HasBit row q ↔ P q)
    → ((q : ℕ) → HasBit other q ↔ S q)
    → (told ≡ true) ↔ ((q : ℕ) × HasBit row q × HasBit other q)
    → (told ≡ true) ↔ ((q : ℕ) × P q × S q)
meeting_arcs P S row other told arcs rels meet = (
  λ h. let (q, first, second) = meet.0 h in (q, (arcs q).0 first, (rels q).0 second),
  λ (q, arc, rel). meet.1 (q, (arcs q).1 arc, (rels q).1 rel),
)

left_of : (a b : Bool) → (a && b) ≡ true → a ≡ true
left_of true b e = refl
left_of false b e = e

right_of : (a b : Bool) → (a && b) ≡ true → b ≡ true
right_of true b e = e
right_of false b e = absurd (false≢true e)

-- A bit of a row of one word is one of that word.
single : (x j : ℕ) → j / 64 ≡ 0 → bit_of (x ∷ []) j ≡ (bit_at x (j % 64) == 1)
single x j e = ap (λ k. bit_at (get_or (x ∷ []) k 0) (j % 64) == 1) e

pub bit_below : (x j : ℕ) → HasBit (x ∷ []) j → j < 64
bit_below x j bit = elim (cases_lt j 64) [
  | inl below ↦ below
  | inr past ↦ absurd (false≢true (sym (bit_past (x ∷ []) j (omega arith)) ∙ bit))
]

place_of : (row : List ℕ) (word j : ℕ) → j < 64 → bit_of row (word * 64 + j) ≡ (bit_at (get_or row word 0) (j % 64) == 1)
place_of row word j below =
    let at : (word * 64 + j) / 64 ≡ word = omega arith in
    let bit_is : (word * 64 + j) % 64 ≡ j % 64 = omega arith in
    ap (λ k. bit_at (get_or row k 0) ((word * 64 + j) % 64) == 1) at ∙ ap (λ k. bit_at (get_or row word 0) k == 1) bit_is

-- The bits of a word of a row, as bits of the row.
pub bit_in_row : (row : List ℕ) (word j : ℕ) → HasBit (get_or row word 0 ∷ []) j → HasBit row (word * 64 + j)
bit_in_row row word j bit =
    let below : j < 64 = bit_below (get_or row word 0) j bit in
    place_of row word j below ∙ (sym (single (get_or row word 0) j (omega arith)) ∙ bit)

word_has : (row : List ℕ) (word j : ℕ) → j < 64 → HasBit row (word * 64 + j) → HasBit (get_or row word 0 ∷ []) j
word_has row word j below bit = single (get_or row word 0) j (omega arith) ∙ (sym (place_of row word j below) ∙ bit)

-- Some bits of a word are bits of it.
pub kept_bit : (x kept j : ℕ) → HasBit (bit_and x kept ∷ []) j → HasBit (x ∷ []) j
kept_bit x kept j bit =
    let below : j < 64 = bit_below (bit_and x kept) j bit in
    let e : j / 64 ≡ 0 = omega arith in
    single x j e ∙ left_of (bit_at x (j % 64) == 1) (bit_at kept (j % 64) == 1) (sym (bit_and_tests x kept (j % 64)) ∙ (sym (single (bit_and x kept) j e) ∙ bit))

one_of_min : (a b : ℕ) → a < 2 → b < 2 → (a == 1) ≡ true → (b == 1) ≡ false → (min a (1 - b) == 1) ≡ true
one_of_min a b a_bit b_bit one none = grind (arith, nat_tests)

-- A bit of x is left where those of both y and z are taken away, or it is one of these.
left_or_taken :
    (x y z j : ℕ)
    → y < 2 ^ 64
    → z < 2 ^ 64
    → j < 64
    → HasBit (x ∷ []) j
    → HasBit (bit_and x (bit_not w64 (bit_and y z)) ∷ []) j ⊎ (HasBit (y ∷ []) j × HasBit (z ∷ []) j)
left_or_taken x y z j y_fits z_fits below bit =
    let e : j / 64 ≡ 0 = omega arith in
    let k : ℕ = j % 64 in
    let near : k < 64 = omega arith in
    let taken : ℕ = bit_and y z in
    let fits : taken < 2 ^ 64 = and_lt 64 y z y_fits z_fits in
    let own : (bit_at x k == 1) ≡ true = sym (single x j e) ∙ bit in
    elim (cases_Bool (bit_at taken k == 1)) [
      | inl gone ↦
          let both : ((bit_at y k == 1) && (bit_at z k == 1)) ≡ true = sym (bit_and_tests y z k) ∙ gone in
          inr (single y j e ∙ left_of (bit_at y k == 1) (bit_at z k == 1) both, single z j e ∙ right_of (bit_at y k == 1) (bit_at z k == 1) both)
      | inr stays ↦
          inl
          (single (bit_and x (bit_not w64 taken)) j e
          ∙ ap (λ v. v == 1) (bit_at_and x (bit_not w64 taken) k ∙ ap (λ v. min (bit_at x k) v) (bit_at_not w64 taken k fits near))
          ∙ one_of_min (bit_at x k) (bit_at taken k) (bit_at-lt x k) (bit_at-lt taken k) own stays)
    ]

-- Each bit of the word of a row has an answer, if those have one that are not both among the others and answers of themselves.
pub word_answered :
    (S : ℕ → ℕ → Type 0) (targets others : List ℕ) (word themselves : ℕ)
    → get_or others word 0 < 2 ^ 64
    → themselves < 2 ^ 64
    → AreOwnAnswers S word themselves
    → ((j : ℕ) → HasBit (bit_and (get_or targets word 0) (bit_not w64 (bit_and (get_or others word 0) themselves)) ∷ []) j → IsTargetAnswered S (HasBit others) (word * 64 + j))
    → (t : ℕ)
    → t / 64 ≡ word
    → HasBit targets t
    → IsTargetAnswered S (HasBit others) t
word_answered S targets others word themselves fits own_fits own rest t in_word bit =
    let j : ℕ = t % 64 in
    let below : j < 64 = omega arith in
    let is : t ≡ word * 64 + j = omega (arith, in_word) in
    let here : HasBit (get_or targets word 0 ∷ []) j = word_has targets word j below (subst (λ k. HasBit targets k) is bit) in
    let answer : IsTargetAnswered S (HasBit others) (word * 64 + j) =
    elim (left_or_taken (get_or targets word 0) (get_or others word 0) themselves j fits own_fits below here) [
      | inl left ↦ rest j left
      | inr (other, itself) ↦ (word * 64 + j, bit_in_row others word j other, own j itself)
    ] in
    subst (λ k. IsTargetAnswered S (HasBit others) k) (sym is) answer

-- The targets of one row more.
module _ (table : List ℕ) (width word row targets j : ℕ) (j_in : j < 64) where
  of_word : HasCell table width row (word * 64 + j) ↔ HasBit (get_or table (row * width + word) 0 ∷ []) j
  of_word =
      let at : (word * 64 + j) / 64 ≡ word = omega arith in
      let bit_is : (word * 64 + j) % 64 ≡ j % 64 = omega arith in
      let same : cell_of table width row (word * 64 + j) ≡ bit_of (get_or table (row * width + word) 0 ∷ []) j =
      cell_at table width row (word * 64 + j)
      ∙ (ap (λ k. bit_at (get_or table (row * width + k) 0) ((word * 64 + j) % 64) == 1) at
      ∙ (ap (λ k. bit_at (get_or table (row * width + word) 0) k == 1) bit_is
      ∙ sym (single (get_or table (row * width + word) 0) j (omega arith)))) in
      (λ cell. sym same ∙ cell, λ bit. same ∙ bit)

  pub targets_more :
      HasBit (targets ∷ []) j ↔ ((s : ℕ) × (s < row) × HasCell table width s (word * 64 + j))
      → HasBit (bit_or targets (get_or table (row * width + word) 0) ∷ []) j ↔ ((s : ℕ) × (s < row + 1) × HasCell table width s (word * 64 + j))
  targets_more before =
      let more : ℕ = get_or table (row * width + word) 0 in
      let e : j / 64 ≡ 0 = omega arith in
      let told : bit_of (bit_or targets more ∷ []) j ≡ (bit_of (targets ∷ []) j || bit_of (more ∷ []) j) =
      single (bit_or targets more) j e
      ∙ (bit_or_tests targets more (j % 64) ∙ sym (ap (λ b. b || bit_of (more ∷ []) j) (single targets j e) ∙ ap (λ b. (bit_at targets (j % 64) == 1) || b) (single more j e))) in (
        λ bit.
            elim (or_cases (bit_of (targets ∷ []) j) (bit_of (more ∷ []) j) (sym told ∙ bit)) [
              | inl old ↦ let (s, s_in, cell) = before.0 old in (s, omega (arith, s_in), cell)
              | inr new ↦ (row, omega arith, of_word.1 new)
            ],
        λ (s, s_in, cell).
            elim (cases_eq s row) [
              | inl here ↦ told ∙ or_right (bit_of (targets ∷ []) j) (bit_of (more ∷ []) j) (of_word.0 (subst (λ k. HasCell table width k (word * 64 + j)) here cell))
              | inr other ↦ told ∙ or_left (bit_of (targets ∷ []) j) (bit_of (more ∷ []) j) (before.1 (s, omega (arith, s_in, other), cell))
            ],
      )
