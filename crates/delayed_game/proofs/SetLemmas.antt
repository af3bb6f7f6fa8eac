-- Sets of four neighbouring states, and the states before them.
use Rattle.std.proofs.Common.{◌≡◌, ℕ, ◌+◌, ◌-◌, ◌*◌, ◌/◌, ◌%◌, ◌^◌, ◌<◌, ◌≤◌, ◌⊎◌, ◌↔◌, ◌||◌, ◌==◌, inl, inr, Bool, true, false, List, length, get_or, bit_or, refl, sym, ap, ◌∙◌, subst, arith}
use Rattle.std.specs.Int.{bit_at}
use Rattle.std.proofs.lemmas.Bool.{cases_eq, cases_lt, or_cases, or_left, or_right, eqb-true, eq-eqb, false≢true}
use Rattle.std.proofs.lemmas.Nat.{and_mask, shr-shr, row_fits, mul-le}
use Rattle.std.proofs.Math.Nat.{mul_assoc}
use Rattle.std.proofs.lemmas.Nat.Bits.{bit_at_and, bit_at_ones, bit_at_cat_low, bit_at-lt}
use Rattle.auto_core.specs.Automaton.{Automaton, IsAutomaton, Moves}
use Rattle.auto_core.specs.Rows.{bit_of, cell_of, HasBit, HasCell}
use Rattle.auto_core.proofs.BitLemmas.{bit_or_tests, bit_past}
use Rattle.auto_core.proofs.MoveLemmas.{move_in_range}
use Rattle.bit_rows.specs.Walks.{IsNextBit}
use Rattle.delayed_game.specs.Before.{LeadsTo, LeadsToSet, LeadsToFour, IsSetTable}

-- ---- marks of rows

-- Those from which a move leads to a state of `ends` below a place are marked besides the old ones.
abbrev pub EndsMarked : Automaton → List ℕ → List ℕ → List ℕ → ℕ → ℕ → Type 0
EndsMarked A ends old made w at =
    (a q : ℕ) → q < w * 64 → HasCell made w a q ↔ (HasCell old w a q ⊎ ((q' : ℕ) × Moves A q a q' × (q' < at) × HasBit ends q'))

pub ends_none : (A : Automaton) (ends made : List ℕ) (w : ℕ) → EndsMarked A ends made made w 0
ends_none A ends made w a q near = (
  λ cell. inl cell,
  λ either. elim either [ inl cell ↦ cell | inr is ↦ let lt = is.2 in absurd (omega arith) ],
)

pub ends_more :
    (A : Automaton) (ends old now new : List ℕ) (w at right : ℕ)
    → EndsMarked A ends old now w at
    → IsNextBit ends at right
    → ((a q : ℕ) → q < w * 64 → HasCell new w a q ↔ (HasCell now w a q ⊎ Moves A q a right))
    → EndsMarked A ends old new w (right + 1)
ends_more A ends old now new w at right h next marks a q near = (
  λ cell. elim ((marks a q near).0 cell) [
    | inl was ↦ elim ((h a q near).0 was) [
      | inl first ↦ inl first
      | inr is ↦ let lt = is.2 in let le = next.behind in inr (is.0, is.1, omega arith, is.3)
    ]
    | inr go ↦ inr (right, go, omega arith, next.here)
  ],
  λ either. (marks a q near).1 (elim either [
    | inl first ↦ inl ((h a q near).1 (inl first))
    | inr is ↦ elim (cases_eq is.0 right) [
      | inl e ↦ inr (subst (λ x. Moves A q a x) e is.1)
      | inr apart ↦ elim (cases_lt is.0 at) [
        | inl before ↦ inl ((h a q near).1 (inr (is.0, is.1, before, is.3)))
        | inr from ↦ let lt = is.2 in absurd (false≢true (sym (next.none_between is.0 from (omega arith)) ∙ is.3))
      ]
    ]
  ]),
)

-- up to the four of the next state that the row has
pub ends_upto :
    (A : Automaton) (ends old now : List ℕ) (w at right upto : ℕ)
    → EndsMarked A ends old now w at
    → IsNextBit ends at right
    → at ≤ upto
    → upto ≤ right
    → EndsMarked A ends old now w upto
ends_upto A ends old now w at right upto h next from le a q near = (
  λ cell. elim ((h a q near).0 cell) [
    | inl first ↦ inl first
    | inr is ↦ let lt = is.2 in inr (is.0, is.1, omega arith, is.3)
  ],
  λ either. (h a q near).1 (elim either [
    | inl first ↦ inl first
    | inr is ↦ elim (cases_lt is.0 at) [
      | inl before ↦ inr (is.0, is.1, before, is.3)
      | inr past ↦ let lt = is.2 in absurd (false≢true (sym (next.none_between is.0 past (omega arith)) ∙ is.3))
    ]
  ]),
)

pub ends_all :
    (A : Automaton) (ends old made : List ℕ) (w at : ℕ)
    → EndsMarked A ends old made w at
    → ((i : ℕ) → at ≤ i → bit_of ends i ≡ false)
    → (a q : ℕ)
    → q < w * 64
    → HasCell made w a q ↔ (HasCell old w a q ⊎ LeadsTo A a ends q)
ends_all A ends old made w at h none a q near = (
  λ cell. elim ((h a q near).0 cell) [
    | inl first ↦ inl first
    | inr is ↦ inr (is.0, is.1, is.3)
  ],
  λ either. (h a q near).1 (elim either [
    | inl first ↦ inl first
    | inr is ↦ elim (cases_lt is.0 at) [
      | inl before ↦ inr (is.0, is.1, before, is.2)
      | inr from ↦ absurd (false≢true (sym (none is.0 from) ∙ is.2))
    ]
  ]),
)

-- where the rows of the letters that lead to a state were clear
pub letters_from_clear :
    (L A : Automaton) (to : ℕ) (ends clear made : List ℕ) (w : ℕ)
    → ((p a q : ℕ) → Moves L p a to → q < w * 64 → cell_of clear w a q ≡ false)
    → ((a q : ℕ) → q < w * 64 → HasCell made w a q ↔ (HasCell clear w a q ⊎ LeadsTo A a ends q))
    → (p a q : ℕ)
    → Moves L p a to
    → q < w * 64
    → HasCell made w a q ↔ LeadsTo A a ends q
letters_from_clear L A to ends clear made w none marks p a q move near = (
  λ cell. elim ((marks a q near).0 cell) [
    | inl was ↦ absurd (false≢true (sym (none p a q move near) ∙ was))
    | inr leads ↦ leads
  ],
  λ leads. (marks a q near).1 (inr leads),
)

-- ---- one set

-- A move leads to one of the first states of the set.
abbrev pub LeadsToFirst : Automaton → ℕ → ℕ → ℕ → ℕ → Type 0
LeadsToFirst A k upto a q = (i : ℕ) × (i < upto) × (bit_at k i ≡ 1) × Moves A q a (k / 16 * 4 + i)

-- the next state of the set is marked
pub set_more :
    (A : Automaton) (k i w : ℕ) (old now new : List ℕ)
    → bit_at k i ≡ 1
    → ((a q : ℕ) → q < w * 64 → HasCell now w a q ↔ (HasCell old w a q ⊎ LeadsToFirst A k i a q))
    → ((a q : ℕ) → q < w * 64 → HasCell new w a q ↔ (HasCell now w a q ⊎ Moves A q a (k / 16 * 4 + i)))
    → (a q : ℕ)
    → q < w * 64
    → HasCell new w a q ↔ (HasCell old w a q ⊎ LeadsToFirst A k (i + 1) a q)
set_more A k i w old now new here h marks a q near = (
  λ cell. elim ((marks a q near).0 cell) [
    | inl was ↦ elim ((h a q near).0 was) [
      | inl first ↦ inl first
      | inr is ↦ let lt = is.1 in inr (is.0, omega arith, is.2, is.3)
    ]
    | inr move ↦ inr (i, omega arith, here, move)
  ],
  λ either. (marks a q near).1 (elim either [
    | inl first ↦ inl ((h a q near).1 (inl first))
    | inr is ↦ elim (cases_eq is.0 i) [
      | inl e ↦ inr (subst (λ x. Moves A q a (k / 16 * 4 + x)) e is.3)
      | inr apart ↦ let lt = is.1 in inl ((h a q near).1 (inr (is.0, omega arith, is.2, is.3)))
    ]
  ]),
)

-- the next state is not in the set, or is none
pub set_passed :
    (A : Automaton) (k i w : ℕ) (old now : List ℕ)
    → IsAutomaton A
    → (bit_at k i ≡ 1 → A.states ≤ k / 16 * 4 + i)
    → ((a q : ℕ) → q < w * 64 → HasCell now w a q ↔ (HasCell old w a q ⊎ LeadsToFirst A k i a q))
    → (a q : ℕ)
    → q < w * 64
    → HasCell now w a q ↔ (HasCell old w a q ⊎ LeadsToFirst A k (i + 1) a q)
set_passed A k i w old now valid none h a q near = (
  λ cell. elim ((h a q near).0 cell) [
    | inl first ↦ inl first
    | inr is ↦ let lt = is.1 in inr (is.0, omega arith, is.2, is.3)
  ],
  λ either. (h a q near).1 (elim either [
    | inl first ↦ inl first
    | inr is ↦ elim (cases_eq is.0 i) [
      | inl e ↦
          let out = none (subst (λ x. bit_at k x ≡ 1) e is.2) in
          let inside = (move_in_range A valid q a (k / 16 * 4 + is.0) is.3).1 in
          absurd (omega arith)
      | inr apart ↦ let lt = is.1 in inr (is.0, omega arith, is.2, is.3)
    ]
  ]),
)

-- ---- the table

-- a cell of a letter's row is one of the long row
pub column_in : (a q l w : ℕ) → a < l → q < w * 64 → a * w * 64 + q < l * w * 64
column_in a q l w a_in near =
    let fits = row_fits a (w * 64) l (w * 64) a_in (omega arith) in
    omega (arith, mul_assoc a w 64, mul_assoc l w 64)

column_past : (a q l w : ℕ) → l ≤ a → l * w * 64 ≤ a * w * 64 + q
column_past a q l w le = let more = mul-le l (w * 64) a (w * 64) le (omega arith) in omega (arith, mul_assoc a w 64, mul_assoc l w 64)

-- no move is by a letter past the last one
no_label : (A : Automaton) → IsAutomaton A → (q a r : ℕ) → Moves A q a r → A.labels ≤ a → ⊥
no_label A valid q a r move past = let inside = (move_in_range A valid q a r move).2 in omega arith

-- the next row is written
pub table_more :
    (A : Automaton) (w k stride : ℕ) (old new made clear : List ℕ)
    → stride ≡ A.labels * w
    → IsSetTable A w k old
    → length new ≡ length old
    → ((i : ℕ) → bit_of clear i ≡ false)
    → ((a q : ℕ) → q < w * 64 → HasCell made w a q ↔ (HasCell clear w a q ⊎ LeadsToSet A k a q))
    → ((c : ℕ) → c < stride * 64 → cell_of new stride k c ≡ bit_of made c)
    → ((r c : ℕ) → c < stride * 64 → ¬ (r ≡ k) → cell_of new stride r c ≡ cell_of old stride r c)
    → IsSetTable A w (k + 1) new
table_more A w k stride old new made clear is h len none marks here others = record {
  len = len ∙ h.len;
  cells = λ r a q r_in a_in near.
      let c = a * w * 64 + q in
      let c_in : c < A.labels * w * 64 = column_in a q A.labels w a_in near in
      let written : c < A.labels * w * 64 → cell_of new (A.labels * w) k c ≡ bit_of made c = subst (λ s. c < s * 64 → cell_of new s k c ≡ bit_of made c) is (here c) in
      let kept : c < A.labels * w * 64 → ¬ (r ≡ k) → cell_of new (A.labels * w) r c ≡ cell_of old (A.labels * w) r c = subst (λ s. c < s * 64 → ¬ (r ≡ k) → cell_of new s r c ≡ cell_of old s r c) is (others r c) in
      let m = marks a q near in
      elim (cases_eq r k) [
        | inl e ↦ subst (λ x. HasCell new (A.labels * w) x c ↔ LeadsToSet A x a q) (sym e) (
          λ cell. elim (m.0 (sym (written c_in) ∙ cell)) [
            | inl was ↦ absurd (false≢true (sym (none c) ∙ was))
            | inr leads ↦ leads
          ],
          λ leads. written c_in ∙ m.1 (inr leads),
        )
        | inr apart ↦
            let old_cells = h.cells r a q (omega arith) a_in near in
            (λ cell. old_cells.0 (sym (kept c_in apart) ∙ cell), λ leads. kept c_in apart ∙ old_cells.1 leads)
      ];
}

-- ---- which of four states a row has

-- the lowest four digits, from a place on
digit_of : (word at i : ℕ) → i < 4 → bit_at (word / 2 ^ at % 16) i ≡ bit_at word (at + i)
digit_of word at i i_in =
    let x = word / 2 ^ at in
    let one : bit_at 15 i ≡ 1 = bit_at_ones 4 i i_in in
    let low = bit_at-lt x i in
    ap (λ n. bit_at n i) (sym (and_mask x 4)) ∙ bit_at_and x 15 i ∙ omega (arith, one) ∙ ap (λ n. n % 2) (shr-shr word at i)

pub set_digits : (ends : List ℕ) (four i : ℕ) → i < 4 → bit_at (get_or ends (four / 16) 0 / 2 ^ (four % 16 * 4) % 16) i ≡ 1 ↔ HasBit ends (four * 4 + i)
set_digits ends four i i_in =
    let word = get_or ends (four / 16) 0 in
    let at : (four * 4 + i) / 64 ≡ four / 16 = omega arith in
    let place : (four * 4 + i) % 64 ≡ four % 16 * 4 + i = omega arith in
    let is : bit_of ends (four * 4 + i) ≡ (bit_at word (four % 16 * 4 + i) == 1) =
    ap (λ k. bit_at (get_or ends k 0) ((four * 4 + i) % 64) == 1) at ∙ ap (λ k. bit_at word k == 1) place in
    let digit = digit_of word (four % 16 * 4) i i_in in (
      λ one. is ∙ eq-eqb (bit_at word (four % 16 * 4 + i)) 1 (sym digit ∙ one),
      λ bit. digit ∙ eqb-true (bit_at word (four % 16 * 4 + i)) 1 (sym is ∙ bit),
    )

-- ---- the rows by sets

set_number : (four set i : ℕ) → set < 16 → i < 4 → (bit_at (four * 16 + set) i ≡ bit_at set i) × ((four * 16 + set) / 16 ≡ four)
set_number four set i below i_in = (bit_at_cat_low four 4 set i i_in, omega arith)

module _ (A : Automaton) (valid : IsAutomaton A) (w four set : ℕ) (ends : List ℕ) (below : set < 16) (digits : (i : ℕ) → i < 4 → bit_at set i ≡ 1 ↔ HasBit ends (four * 4 + i)) where
  -- a state of the four that the row has
  at_four : (a q : ℕ) → LeadsToFour A a ends four q → LeadsToSet A (four * 16 + set) a q
  at_four a q (q', move, bit, from, lt) =
      let i = q' - four * 4 in
      let is : q' ≡ four * 4 + i = omega arith in
      let i_in : i < 4 = omega arith in
      let number = set_number four set i below i_in in (
        i,
        i_in,
        number.0 ∙ (digits i i_in).1 (subst (λ x. HasBit ends x) is bit),
        subst (λ x. Moves A q a (x * 4 + i)) (sym number.1) (subst (λ x. Moves A q a x) is move),
      )

  from_set : (a q : ℕ) → LeadsToSet A (four * 16 + set) a q → LeadsToFour A a ends four q
  from_set a q (i, i_in, one, move) =
      let number = set_number four set i below i_in in (
        four * 4 + i,
        subst (λ x. Moves A q a (x * 4 + i)) number.1 move,
        (digits i i_in).0 (sym number.0 ∙ one),
        omega arith,
        omega arith,
      )

  -- the row of the table for the set
  pub set_leads :
      (sets row : List ℕ)
      → IsSetTable A w (w * 256) sets
      → four < w * 16
      → ((c : ℕ) → c < A.labels * w * 64 → bit_of row c ≡ cell_of sets (A.labels * w) (four * 16 + set) c)
      → ((c : ℕ) → A.labels * w * 64 ≤ c → bit_of row c ≡ false)
      → (a q : ℕ)
      → q < w * 64
      → HasCell row w a q ↔ LeadsToFour A a ends four q
  set_leads sets row table four_in bits outside a q near = elim (cases_lt a A.labels) [
    | inl a_in ↦
        let c_in = column_in a q A.labels w a_in near in
        let cells = table.cells (four * 16 + set) a q (omega arith) a_in near in (
          λ bit. from_set a q (cells.0 (sym (bits (a * w * 64 + q) c_in) ∙ bit)),
          λ leads. bits (a * w * 64 + q) c_in ∙ cells.1 (at_four a q leads),
        )
    | inr past ↦ (
      λ bit. absurd (false≢true (sym (outside (a * w * 64 + q) (column_past a q A.labels w past)) ∙ bit)),
      λ leads. absurd (no_label A valid q a leads.0 leads.1 past),
    )
  ]

-- ---- sixteen states at once

-- The same of marks that are bits.
abbrev pub BitsMarked : Automaton → List ℕ → List ℕ → (ℕ → Bool) → ℕ → ℕ → Type 0
BitsMarked A ends old bits w at =
    (a q : ℕ) → q < w * 64 → (bits (a * w * 64 + q) ≡ true) ↔ (HasCell old w a q ⊎ ((q' : ℕ) × Moves A q a q' × (q' < at) × HasBit ends q'))

pub four_more :
    (A : Automaton) (ends old : List ℕ) (now new : ℕ → Bool) (row : List ℕ) (w four at upto : ℕ)
    → at ≡ four * 4
    → upto ≡ (four + 1) * 4
    → BitsMarked A ends old now w at
    → ((a q : ℕ) → q < w * 64 → HasCell row w a q ↔ LeadsToFour A a ends four q)
    → ((c : ℕ) → new c ≡ (now c || bit_of row c))
    → BitsMarked A ends old new w upto
four_more A ends old now new row w four at upto begins stops h leads ored a q near =
    let c = a * w * 64 + q in (
      λ marked. elim (or_cases (now c) (bit_of row c) (sym (ored c) ∙ marked)) [
        | inl was ↦ elim ((h a q near).0 was) [
          | inl first ↦ inl first
          | inr is ↦ let lt = is.2 in inr (is.0, is.1, omega arith, is.3)
        ]
        | inr here ↦ let (q', move, bit, from, lt) = (leads a q near).0 here in inr (q', move, omega arith, bit)
      ],
      λ both. ored c ∙ elim both [
        | inl first ↦ or_left (now c) (bit_of row c) ((h a q near).1 (inl first))
        | inr is ↦ elim (cases_lt is.0 at) [
          | inl before ↦ or_left (now c) (bit_of row c) ((h a q near).1 (inr (is.0, is.1, before, is.3)))
          | inr past ↦ let lt = is.2 in or_right (now c) (bit_of row c) ((leads a q near).1 (is.0, is.1, is.3, omega arith, omega arith))
        ]
      ],
    )

pub sixteen_more :
    (A : Automaton) (ends old now new first second third fourth : List ℕ) (w four : ℕ)
    → EndsMarked A ends old now w (four * 4)
    → ((a q : ℕ) → q < w * 64 → HasCell first w a q ↔ LeadsToFour A a ends four q)
    → ((a q : ℕ) → q < w * 64 → HasCell second w a q ↔ LeadsToFour A a ends (four + 1) q)
    → ((a q : ℕ) → q < w * 64 → HasCell third w a q ↔ LeadsToFour A a ends (four + 2) q)
    → ((a q : ℕ) → q < w * 64 → HasCell fourth w a q ↔ LeadsToFour A a ends (four + 3) q)
    → ((c : ℕ) → bit_of new c ≡ ((((bit_of now c || bit_of first c) || bit_of second c) || bit_of third c) || bit_of fourth c))
    → EndsMarked A ends old new w (four * 4 + 16)
sixteen_more A ends old now new first second third fourth w four h one two three four' ored =
    let once : ℕ → Bool = λ c. bit_of now c || bit_of first c in
    let twice : ℕ → Bool = λ c. once c || bit_of second c in
    let thrice : ℕ → Bool = λ c. twice c || bit_of third c in
    four_more A ends old thrice (bit_of new) fourth w (four + 3) (four * 4 + 12) (four * 4 + 16) (omega arith) (omega arith)
    (four_more A ends old twice thrice third w (four + 2) (four * 4 + 8) (four * 4 + 12) (omega arith) (omega arith)
    (four_more A ends old once twice second w (four + 1) (four * 4 + 4) (four * 4 + 8) (omega arith) (omega arith)
    (four_more A ends old (bit_of now) once first w four (four * 4) (four * 4 + 4) refl (omega arith) h one (λ c. refl)) two (λ c. refl)) three (λ c. refl)) four' ored

or_of_five :
    (v a b c d i : ℕ)
    → (bit_at (bit_or (bit_or (bit_or (bit_or v a) b) c) d) i == 1)
    ≡ (((((bit_at v i == 1) || (bit_at a i == 1)) || (bit_at b i == 1)) || (bit_at c i == 1)) || (bit_at d i == 1))
or_of_five v a b c d i =
    bit_or_tests (bit_or (bit_or (bit_or v a) b) c) d i
    ∙ ap (λ x. x || (bit_at d i == 1)) (bit_or_tests (bit_or (bit_or v a) b) c i
    ∙ ap (λ x. x || (bit_at c i == 1)) (bit_or_tests (bit_or v a) b i
    ∙ ap (λ x. x || (bit_at b i == 1)) (bit_or_tests v a i)))

-- words that are the 'or' of five rows' words, place by place
pub or_each :
    (old first second third fourth new : List ℕ)
    → length new ≡ length old
    → length old ≡ length first
    → length old ≡ length second
    → length old ≡ length third
    → length old ≡ length fourth
    → ((k : ℕ) → k < length old → get_or new k 0 ≡ bit_or (bit_or (bit_or (bit_or (get_or old k 0) (get_or first k 0)) (get_or second k 0)) (get_or third k 0)) (get_or fourth k 0))
    → (i : ℕ)
    → bit_of new i ≡ ((((bit_of old i || bit_of first i) || bit_of second i) || bit_of third i) || bit_of fourth i)
or_each old first second third fourth new same one two three four each i = elim (cases_lt (i / 64) (length old)) [
  | inl h ↦
      ap (λ w. bit_at w (i % 64) == 1) (each (i / 64) h)
      ∙ or_of_five (get_or old (i / 64) 0) (get_or first (i / 64) 0) (get_or second (i / 64) 0) (get_or third (i / 64) 0) (get_or fourth (i / 64) 0) (i % 64)
  | inr past ↦
      rw (bit_past old i past, bit_past first i (omega arith), bit_past second i (omega arith), bit_past third i (omega arith), bit_past fourth i (omega arith), bit_past new i (omega arith)) refl
]
