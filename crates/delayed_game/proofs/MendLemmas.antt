-- Rows that are mended.
use Rattle.std.proofs.Common.{◌≡◌, ℕ, ◌+◌, ◌-◌, ◌*◌, ◌/◌, ◌%◌, ◌^◌, ◌<◌, ◌≤◌, ◌↔◌, ◌==◌, inl, inr, true, false, List, get_or, bit_and, min, sym, ap, ◌∙◌, subst, arith, w64}
use Rattle.std.specs.Int.{bit_at, bit_not}
use Rattle.std.proofs.lemmas.Bool.{cases_Bool, cases_eq, cases_lt, eqb-true, eq-eqb, false_from_ne_true, false≢true}
use Rattle.std.proofs.lemmas.Nat.{mul-add-lt}
use Rattle.std.proofs.lemmas.Nat.Bits.{bit_at_and, bit_at_not, bit_at-lt}
use Rattle.std.proofs.Math.Nat.{mul_assoc, mul_comm}
use Rattle.auto_core.specs.Automaton.{Automaton, IsAutomaton, Moves, trans_at}
use Rattle.auto_core.specs.Rows.{bit_of, cell_of, HasBit, HasCell}
use Rattle.auto_core.specs.Game.{Holds}
use Rattle.auto_core.proofs.MoveLemmas.{move_in_range}
use Rattle.bit_rows.specs.Walks.{IsNextBit}
use Rattle.delayed_game.specs.Before.{LeadsTo}
use Rattle.delayed_game.specs.Pairings.{Pairing, IsPairing}
use Rattle.delayed_game.specs.Settling.{KeptRowsAnswer, IsAnsweredIn}

-- ---- one state that was lost

-- Those are cleared from which one of the first of these transitions leads, unless a move by its letter leads to a state of `ends`.
abbrev pub IsClearedUpto : Automaton → List ℕ → List ℕ → List ℕ → List ℕ → ℕ → ℕ → Type 0
IsClearedUpto A ns ends old now w n =
    (a q : ℕ) → q < w * 64 → HasCell now w a q
    ↔ (HasCell old w a q × ((k : ℕ) → k < n → (trans_at A (get_or ns k 0)).label ≡ a → (trans_at A (get_or ns k 0)).source ≡ q → LeadsTo A a ends q))

-- the next one leads from a state from which a move by its letter leads to a state of `ends`
pub next_left :
    (A : Automaton) (ns ends old now : List ℕ) (w i label source : ℕ)
    → IsClearedUpto A ns ends old now w i
    → (trans_at A (get_or ns i 0)).label ≡ label
    → (trans_at A (get_or ns i 0)).source ≡ source
    → LeadsTo A label ends source
    → IsClearedUpto A ns ends old now w (i + 1)
next_left A ns ends old now w i label source h by from leads a q near = (
  λ cell.
      let was = (h a q near).0 cell in (
        was.0,
        λ k lt same start. elim (cases_eq k i) [
          | inl e ↦
              let is : label ≡ a = sym by ∙ (subst (λ j. (trans_at A (get_or ns j 0)).label ≡ a) e same) in
              let at : source ≡ q = sym from ∙ (subst (λ j. (trans_at A (get_or ns j 0)).source ≡ q) e start) in
              subst (λ x. LeadsTo A x ends q) is (subst (λ x. LeadsTo A label ends x) at leads)
          | inr apart ↦ was.1 k (omega arith) same start
        ],
      ),
  λ both. (h a q near).1 (both.0, λ k lt same start. both.1 k (omega arith) same start),
)

-- it does not, and is cleared
pub next_cleared :
    (A : Automaton) (ns ends old now new : List ℕ) (w i label source : ℕ)
    → IsClearedUpto A ns ends old now w i
    → (trans_at A (get_or ns i 0)).label ≡ label
    → (trans_at A (get_or ns i 0)).source ≡ source
    → ¬ LeadsTo A label ends source
    → cell_of new w label source ≡ false
    → ((a q : ℕ) → q < w * 64 → ¬ ((a ≡ label) × (q ≡ source)) → cell_of new w a q ≡ cell_of now w a q)
    → IsClearedUpto A ns ends old new w (i + 1)
next_cleared A ns ends old now new w i label source h by from none here others a q near = elim (cases_eq a label) [
  | inl e ↦ elim (cases_eq q source) [
    | inl f ↦ (
      λ cell. absurd (false≢true (sym here ∙ subst (λ x. HasCell new w x source) e (subst (λ x. HasCell new w a x) f cell))),
      λ both. absurd (none (subst (λ x. LeadsTo A x ends source) e (subst (λ x. LeadsTo A a ends x) f (both.1 i (omega arith) (by ∙ sym e) (from ∙ sym f))))),
    )
    | inr apart ↦ far (λ same. apart same.1)
  ]
  | inr apart ↦ far (λ same. apart same.0)
]
  where
    far : ¬ ((a ≡ label) × (q ≡ source)) → HasCell new w a q
        ↔ (HasCell old w a q × ((k : ℕ) → k < i + 1 → (trans_at A (get_or ns k 0)).label ≡ a → (trans_at A (get_or ns k 0)).source ≡ q → LeadsTo A a ends q))
    far apart = (
      λ cell.
          let was = (h a q near).0 (sym (others a q near apart) ∙ cell) in (
            was.0,
            λ k lt same start. elim (cases_eq k i) [
              | inl e ↦ absurd (apart (
                sym (subst (λ j. (trans_at A (get_or ns j 0)).label ≡ a) e same) ∙ by,
                sym (subst (λ j. (trans_at A (get_or ns j 0)).source ≡ q) e start) ∙ from,
              ))
              | inr before ↦ was.1 k (omega arith) same start
            ],
          ),
      λ both. others a q near apart ∙ (h a q near).1 (both.0, λ k lt same start. both.1 k (omega arith) same start),
    )

-- ---- all of them

-- Each state from which a move by the letter leads to a state of `ends` has its cell, and of those from which one leads to a lost state below a
-- place no others.
pub record IsMendedUpto (A : Automaton) (lost ends made : List ℕ) (w at : ℕ) : Type 0 where
  pub keeps : (a q : ℕ) → a < A.labels → q < w * 64 → LeadsTo A a ends q → HasCell made w a q
  pub clears : (a q r : ℕ) → q < w * 64 → HasCell made w a q → r < at → HasBit lost r → Moves A q a r → LeadsTo A a ends q

pub mended_more :
    (A : Automaton) (lost ends now new : List ℕ) (w at right : ℕ)
    → IsMendedUpto A lost ends now w at
    → IsNextBit lost at right
    → ((a q : ℕ) → q < w * 64 → HasCell new w a q ↔ (HasCell now w a q × (Moves A q a right → LeadsTo A a ends q)))
    → IsMendedUpto A lost ends new w (right + 1)
mended_more A lost ends now new w at right h next cleared = record {
  keeps = λ a q a_in near leads. (cleared a q near).1 (h.keeps a q a_in near leads, λ go. leads);
  clears = λ a q r near cell lt bit go.
      let both = (cleared a q near).0 cell in
      elim (cases_eq r right) [
        | inl e ↦ both.1 (subst (λ x. Moves A q a x) e go)
        | inr apart ↦ elim (cases_lt r at) [
          | inl before ↦ h.clears a q r near both.0 before bit go
          | inr from ↦ absurd (false≢true (sym (next.none_between r from (omega arith)) ∙ bit))
        ]
      ];
}

-- the place of a cell in a table of rows for letters
pub cell_inside : (a w q l n : ℕ) → a < l → q < w * 64 → n ≡ l * w → a * w * 64 + q < n * 64
cell_inside a w q l n a_in near len = omega (arith, mul-add-lt a (w * 64) q l a_in near, mul_assoc a w 64, mul_comm (w * 64) l, mul_assoc l w 64, ap (λ x. x * 64) len)

-- ---- what was lost

word_lost : (a b i : ℕ) → b < 2 ^ 64 → i < 64 → bit_at (bit_and a (bit_not w64 b)) i ≡ min (bit_at a i) (1 - bit_at b i)
word_lost a b i fits i_in = bit_at_and a (bit_not w64 b) i ∙ ap (λ n. min (bit_at a i) n) (bit_at_not w64 b i fits i_in)

one_lost : (x y : ℕ) → x < 2 → y < 2 → ((min x (1 - y) == 1) ≡ true) ↔ (((x == 1) ≡ true) × ((y == 1) ≡ false))
one_lost x y x_bit y_bit = (
  λ h.
      let e = eqb-true (min x (1 - y)) 1 h in
      (eq-eqb x 1 (omega arith), false_from_ne_true (y == 1) (λ t. let f = eqb-true y 1 t in absurd (omega arith))),
  λ is.
      let e = eqb-true x 1 is.0 in
      let none : ¬ (y ≡ 1) = λ f. false≢true (sym is.1 ∙ eq-eqb y 1 f) in
      eq-eqb (min x (1 - y)) 1 (omega arith),
)

-- the states of a row without those of another
pub row_lost :
    (row ends lost : List ℕ) (w : ℕ)
    → ((k : ℕ) → get_or ends k 0 < 2 ^ 64)
    → ((k : ℕ) → k < w → get_or lost k 0 ≡ bit_and (get_or row k 0) (bit_not w64 (get_or ends k 0)))
    → (q : ℕ)
    → q < w * 64
    → HasBit lost q ↔ (HasBit row q × (bit_of ends q ≡ false))
row_lost row ends lost w fits each q near =
    let a = get_or row (q / 64) 0 in
    let b = get_or ends (q / 64) 0 in
    let place : q % 64 < 64 = omega arith in
    let word : bit_at (get_or lost (q / 64) 0) (q % 64) ≡ min (bit_at a (q % 64)) (1 - bit_at b (q % 64)) =
    ap (λ n. bit_at n (q % 64)) (each (q / 64) (omega arith)) ∙ word_lost a b (q % 64) (fits (q / 64)) place in
    let both = one_lost (bit_at a (q % 64)) (bit_at b (q % 64)) (bit_at-lt a (q % 64)) (bit_at-lt b (q % 64)) in
    (λ bit. both.0 (sym (ap (λ n. n == 1) word) ∙ bit), λ is. ap (λ n. n == 1) word ∙ both.1 is)

-- ---- the states that answer moves to a place

module _ (L A : Automaton) (R : Pairing) (w to : ℕ) (ends made : List ℕ) (sound : IsAutomaton A) (room : A.states ≤ w * 64) (bits : (q : ℕ) → HasBit ends q ↔ Holds R.pairs to q) where
  -- by the rows that were mended
  pub mended_answers :
      (kept tried lost : List ℕ)
      → KeptRowsAnswer L A w kept tried R
      → to < L.states
      → HasBit tried to
      → ((q : ℕ) → q < w * 64 → HasBit lost q ↔ (HasCell kept w to q × (bit_of ends q ≡ false)))
      → ((a q : ℕ) → a < A.labels → q < w * 64 → LeadsTo A a ends q → HasCell made w a q)
      → ((a q r : ℕ) → q < w * 64 → HasCell made w a q → HasBit lost r → Moves A q a r → LeadsTo A a ends q)
      → (p a q : ℕ)
      → Moves L p a to
      → Holds R.pairs p q
      → HasCell made w a q ↔ IsAnsweredIn A (Holds R.pairs) q a to
  mended_answers kept tried lost h to_in is_tried gone keeps clears p a q move held =
      let answer = h.answered p a to q to_in is_tried move held in
      let range = move_in_range A sound q a answer.0 answer.1 in
      let from = range.0 in
      let into = range.1 in
      let near : q < w * 64 = omega arith in
      let next : answer.0 < w * 64 = omega arith in (
        λ cell. elim (cases_Bool (bit_of ends answer.0)) [
          | inl here ↦ (answer.0, answer.1, (bits answer.0).0 here)
          | inr out ↦
              let leads = clears a q answer.0 near cell ((gone answer.0 next).1 (answer.2, out)) answer.1 in
              (leads.0, leads.1, (bits leads.0).0 leads.2)
        ],
        λ is. keeps a q range.2 near (is.0, is.1, (bits is.0).1 is.2),
      )

  -- by rows that were made anew
  pub made_answers :
      IsPairing R
      → R.states ≡ A.states
      → ((p a q : ℕ) → Moves L p a to → q < w * 64 → HasCell made w a q ↔ LeadsTo A a ends q)
      → (p a q : ℕ)
      → Moves L p a to
      → Holds R.pairs p q
      → HasCell made w a q ↔ IsAnsweredIn A (Holds R.pairs) q a to
  made_answers valid size are p a q move held =
      let lt = (valid.in_range p q held).1 in
      let near : q < w * 64 = omega arith in (
        λ cell. let leads = (are p a q move near).0 cell in (leads.0, leads.1, (bits leads.0).0 leads.2),
        λ is. (are p a q move near).1 (is.0, is.1, (bits is.0).1 is.2),
      )

-- ---- rows that are kept

module _ (L A : Automaton) (w : ℕ) where
  -- as long as pairs only go
  pub kept_stays : (kept tried : List ℕ) (R S : Pairing) → ((p q : ℕ) → Holds S.pairs p q → Holds R.pairs p q) → KeptRowsAnswer L A w kept tried R → KeptRowsAnswer L A w kept tried S
  kept_stays kept tried R S within h = record { columns = h.columns; answered = λ x a y q y_in is_tried move held. h.answered x a y q y_in is_tried move (within x q held) }

  -- the row of one place more
  pub kept_more :
      (to : ℕ) (kept kept' tried tried' row : List ℕ) (R S : Pairing)
      → IsAutomaton A
      → A.states ≤ w * 64
      → IsPairing R
      → R.states ≡ A.states
      → KeptRowsAnswer L A w kept tried R
      → ((p q : ℕ) → Holds S.pairs p q → Holds R.pairs p q)
      → ((q : ℕ) → HasBit row q ↔ Holds R.pairs to q)
      → ((q : ℕ) → q < w * 64 → cell_of kept' w to q ≡ bit_of row q)
      → ((y q : ℕ) → q < w * 64 → ¬ (y ≡ to) → cell_of kept' w y q ≡ cell_of kept w y q)
      → ((y : ℕ) → ¬ (y ≡ to) → bit_of tried' y ≡ bit_of tried y)
      → ((p a q : ℕ) → Moves L p a to → Holds S.pairs p q → IsAnsweredIn A (Holds R.pairs) q a to)
      → KeptRowsAnswer L A w kept' tried' S
  kept_more to kept kept' tried tried' row R S sound room valid size h within bits here others marks answers = record {
    columns = λ y q y_in is_tried near cell. elim (cases_eq y to) [
      | inl e ↦
          let held = (bits q).0 (sym (here q near) ∙ subst (λ x. HasCell kept' w x q) e cell) in
          let lt = (valid.in_range to q held).1 in
          omega arith
      | inr apart ↦ h.columns y q y_in (sym (marks y apart) ∙ is_tried) near (sym (others y q near apart) ∙ cell)
    ];
    answered = λ x a y q y_in is_tried move held. elim (cases_eq y to) [
      | inl e ↦
          let is = answers x a q (subst (λ z. Moves L x a z) e move) held in
          let next = near q a is.0 is.1 in
          (is.0, is.1, subst (λ z. HasCell kept' w z is.0) (sym e) (here is.0 next ∙ (bits is.0).1 is.2))
      | inr apart ↦
          let is = h.answered x a y q y_in (sym (marks y apart) ∙ is_tried) move (within x q held) in
          (is.0, is.1, others y is.0 (near q a is.0 is.1) apart ∙ is.2)
    ];
  }
    where
      near : (q a q' : ℕ) → Moves A q a q' → q' < w * 64
      near q a q' go = let lt = (move_in_range A sound q a q' go).1 in omega arith
