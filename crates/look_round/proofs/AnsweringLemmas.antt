-- Rows of the states that answer a move at once.
use Rattle.std.proofs.Common.{◌≡◌, ℕ, ◌+◌, ◌*◌, ◌/◌, ◌%◌, ◌<◌, ◌≤◌, ◌⊎◌, ◌↔◌, ◌==◌, inl, inr, Bool, ◌||◌, true, false, List, [], ◌∷◌, length, get_or, Contains, refl, sym, ap, ◌∙◌, subst, arith, min, bit_and}
use Rattle.std.specs.Int.{bit_at}
use Rattle.std.specs.Int.Bits.{bit_xor}
use Rattle.std.proofs.Math.Nat.{mul_comm, mul_assoc}
use Rattle.std.proofs.lemmas.Bool.{cases_eq, cases_lt, eqb-true, eq-eqb, false≢true}
use Rattle.std.proofs.lemmas.Nat.Bits.{bit_at_and, bit_at_xor, bit_at-lt}
use Rattle.std.proofs.lemmas.List.{get_or_default}
use Rattle.std.proofs.lemmas.Nat.{mul-add-lt, same_from_place}
use Rattle.auto_core.proofs.BitLemmas.{bit_past}
use Rattle.auto_core.specs.Rows.{bit_of, cell_of, HasBit, HasCell}
use Rattle.auto_core.specs.Game.{Round}
use Rattle.look_round.specs.declared.moves.Move.{Move}
use Rattle.bit_rows.specs.Walks.{IsNextBit}
use Rattle.look_round.specs.Sides.{move}
use Rattle.look_round.specs.declared.answering.Answering.{Answering}
use Rattle.look_round.specs.declared.arrivals.Arrivals.{Arrivals}
use Rattle.look_round.specs.Arrivals.{IsRowOfArrivals}
use Rattle.look_round.specs.Answering.{IsAnsweredAtOnce, IsRowOfAnswers}

-- The column of the letter a and the state q, where a letter has w words.
abbrev pub col : ℕ → ℕ → ℕ → ℕ
col w a q = a * w * 64 + q

as_place : (w a q : ℕ) → col w a q ≡ a * (w * 64) + q
as_place w a q = ap (λ n. n + q) (mul_assoc a w 64)

pub same_column : (w a q b r : ℕ) → q < w * 64 → r < w * 64 → col w a q ≡ col w b r → (a ≡ b) × (q ≡ r)
same_column w a q b r q_in r_in e = same_from_place a q b r (w * 64) q_in r_in (sym (as_place w a q) ∙ e ∙ as_place w b r)

pub column_fits : (l w a q : ℕ) → a < l → q < w * 64 → col w a q < l * w * 64
column_fits l w a q a_in q_in =
    let lt : a * (w * 64) + q < w * 64 * l = mul-add-lt a (w * 64) q l a_in q_in in
    let same : w * 64 * l ≡ l * w * 64 = mul_comm (w * 64) l ∙ sym (mul_assoc l w 64) in
    let is = as_place w a q in
    omega arith

-- For each letter the cells of row t are those of the old table and of the first n moves of the list; the other rows are the same.
pub record HasArrivalsUpto (moves : List Move) (old now : List ℕ) (l w t n : ℕ) : Type 0 where
  pub here : (a q : ℕ) → a < l → q < w * 64
      → HasCell now (l * w) t (col w a q) ↔ (HasCell old (l * w) t (col w a q) ⊎ ((j : ℕ) × (j < n) × (get_or moves j (move 0 0) ≡ move a q)))
  pub others : (s c : ℕ) → c < l * w * 64 → ¬ (s ≡ t) → cell_of now (l * w) s c ≡ cell_of old (l * w) s c

pub no_arrivals : (moves : List Move) (old : List ℕ) (l w t : ℕ) → HasArrivalsUpto moves old old l w t 0
no_arrivals moves old l w t = record {
  here = λ a q a_in q_in. (λ h. inl h, λ either. elim either [ inl h ↦ h | inr found ↦ let lt = found.1 in absurd (omega arith) ]);
  others = λ s c c_in apart. refl;
}

-- one more move is marked
pub arrival_marked :
    (moves : List Move) (old now new : List ℕ) (l w t n : ℕ) (m : Move)
    → HasArrivalsUpto moves old now l w t n
    → m ≡ get_or moves n (move 0 0)
    → m.label < l
    → m.to < w * 64
    → cell_of new (l * w) t (col w m.label m.to) ≡ true
    → ((s c : ℕ) → c < l * w * 64 → ¬ ((s ≡ t) × (c ≡ col w m.label m.to)) → cell_of new (l * w) s c ≡ cell_of now (l * w) s c)
    → HasArrivalsUpto moves old new l w t (n + 1)
arrival_marked moves old now new l w t n m h is label_in to_in marked same = record {
  here = λ a q a_in q_in. (
    λ cell. elim (cases_eq (col w a q) (col w m.label m.to)) [
      | inl e ↦
          let parts = same_column w a q m.label m.to q_in to_in e in
          inr (n, omega arith, sym is ∙ ap (λ x. move x m.to) (sym parts.0) ∙ ap (λ y. move a y) (sym parts.1))
      | inr apart ↦ elim ((h.here a q a_in q_in).0 (sym (same t (col w a q) (column_fits l w a q a_in q_in) (λ x. apart x.1)) ∙ cell)) [
        | inl was ↦ inl was
        | inr found ↦ let lt = found.1 in inr (found.0, omega arith, found.2)
      ]
    ],
    λ either. elim (cases_eq (col w a q) (col w m.label m.to)) [
      | inl e ↦ ap (λ c. cell_of new (l * w) t c) e ∙ marked
      | inr apart ↦
          let stays = same t (col w a q) (column_fits l w a q a_in q_in) (λ x. apart x.1) in
          stays ∙ (h.here a q a_in q_in).1 (elim either [
            | inl was ↦ inl was
            | inr found ↦ elim (cases_eq found.0 n) [
              | inl f ↦
                  let here : m ≡ move a q = is ∙ ap (λ i. get_or moves i (move 0 0)) (sym f) ∙ found.2 in
                  absurd (apart (sym (ap (λ (x : Move). col w x.label x.to) here)))
              | inr before ↦ let lt = found.1 in inr (found.0, omega arith, found.2)
            ]
          ])
    ],
  );
  others = λ s c c_in apart. same s c c_in (λ x. apart x.0) ∙ h.others s c c_in apart;
}

-- one more move is by none of the letters
pub arrival_passed :
    (moves : List Move) (old now : List ℕ) (l w t n : ℕ) (m : Move)
    → HasArrivalsUpto moves old now l w t n
    → m ≡ get_or moves n (move 0 0)
    → ¬ (m.label < l)
    → HasArrivalsUpto moves old now l w t (n + 1)
arrival_passed moves old now l w t n m h is none = record {
  here = λ a q a_in q_in. (
    λ cell. elim ((h.here a q a_in q_in).0 cell) [
      | inl was ↦ inl was
      | inr found ↦ let lt = found.1 in inr (found.0, omega arith, found.2)
    ],
    λ either. (h.here a q a_in q_in).1 (elim either [
      | inl was ↦ inl was
      | inr found ↦ elim (cases_eq found.0 n) [
        | inl f ↦
            let here : m.label ≡ a = ap (λ (x : Move). x.label) (is ∙ ap (λ i. get_or moves i (move 0 0)) (sym f) ∙ found.2) in
            absurd (none (omega arith))
        | inr before ↦ let lt = found.1 in inr (found.0, omega arith, found.2)
      ]
    ]),
  );
  others = h.others;
}

-- all moves have been tried
pub all_arrived :
    (moves : List Move) (goes : ℕ → ℕ → Type 0) (old now : List ℕ) (l w t n : ℕ)
    → ((a q : ℕ) → Contains moves (move a q) ↔ goes q a)
    → n ≡ length moves
    → HasArrivalsUpto moves old now l w t n
    → (a q : ℕ)
    → a < l
    → q < w * 64
    → HasCell now (l * w) t (col w a q) ↔ (HasCell old (l * w) t (col w a q) ⊎ goes q a)
all_arrived moves goes old now l w t n lists all h a q a_in q_in = (
  λ cell. elim ((h.here a q a_in q_in).0 cell) [
    | inl was ↦ inl was
    | inr found ↦
        let lt = found.1 in
        inr ((lists a q).0 (found.0, omega arith, get_or_default moves found.0 (move a q) (move 0 0) (omega arith) ∙ found.2))
  ],
  λ either. (h.here a q a_in q_in).1 (elim either [
    | inl was ↦ inl was
    | inr go ↦
        let (j, j_in, is) = (lists a q).1 go in
        inr (j, omega arith, get_or_default moves j (move 0 0) (move a q) j_in ∙ is)
  ]),
)

-- what a bit says that is added to another
pub row_added : (old new bit : Bool) (G : Type 0) → new ≡ (old || bit) → (bit ≡ true) ↔ G → (new ≡ true) ↔ ((old ≡ true) ⊎ G)
row_added true new bit G e both = (λ h. inl refl, λ either. e)
row_added false new bit G e both = (
  λ h. inr (both.0 (sym e ∙ h)),
  λ either. elim either [ inl h ↦ absurd (false≢true h) | inr go ↦ e ∙ both.1 go ],
)

-- For each letter row t has lost of the old cells those of the first n moves of the list of which P does not hold; the other rows are the same.
pub record HasClearedUpto (moves : List Move) (P : ℕ → ℕ → Type 0) (old now : List ℕ) (l w t n : ℕ) : Type 0 where
  pub here : (a q : ℕ) → a < l → q < w * 64
      → HasCell now (l * w) t (col w a q) ↔ (HasCell old (l * w) t (col w a q) × ((j : ℕ) → j < n → get_or moves j (move 0 0) ≡ move a q → P a q))
  pub others : (s c : ℕ) → c < l * w * 64 → ¬ (s ≡ t) → cell_of now (l * w) s c ≡ cell_of old (l * w) s c

pub none_cleared : (moves : List Move) (P : ℕ → ℕ → Type 0) (old : List ℕ) (l w t : ℕ) → HasClearedUpto moves P old old l w t 0
none_cleared moves P old l w t = record {
  here = λ a q a_in q_in. (λ h. (h, λ j j_in. absurd (omega arith)), λ h. h.0);
  others = λ s c c_in apart. refl;
}

-- P does not hold of the next move, and its cell is cleared
pub arrival_cleared :
    (moves : List Move) (P : ℕ → ℕ → Type 0) (old now new : List ℕ) (l w t n : ℕ) (m : Move)
    → HasClearedUpto moves P old now l w t n
    → m ≡ get_or moves n (move 0 0)
    → m.label < l
    → m.to < w * 64
    → (P m.label m.to → ⊥)
    → cell_of new (l * w) t (col w m.label m.to) ≡ false
    → ((s c : ℕ) → c < l * w * 64 → ¬ ((s ≡ t) × (c ≡ col w m.label m.to)) → cell_of new (l * w) s c ≡ cell_of now (l * w) s c)
    → HasClearedUpto moves P old new l w t (n + 1)
arrival_cleared moves P old now new l w t n m h is label_in to_in none clear same = record {
  here = λ a q a_in q_in. (
    λ cell. elim (cases_eq (col w a q) (col w m.label m.to)) [
      | inl e ↦ absurd (false≢true (sym clear ∙ ap (λ c. cell_of new (l * w) t c) (sym e) ∙ cell))
      | inr apart ↦
          let was = (h.here a q a_in q_in).0 (sym (same t (col w a q) (column_fits l w a q a_in q_in) (λ x. apart x.1)) ∙ cell) in (
            was.0,
            λ j j_in e. elim (cases_eq j n) [
              | inl f ↦
                  let here : m ≡ move a q = is ∙ ap (λ i. get_or moves i (move 0 0)) (sym f) ∙ e in
                  absurd (apart (sym (ap (λ (x : Move). col w x.label x.to) here)))
              | inr before ↦ was.1 j (omega arith) e
            ],
          )
    ],
    λ both. elim (cases_eq (col w a q) (col w m.label m.to)) [
      | inl e ↦
          let parts = same_column w a q m.label m.to q_in to_in e in
          let here : get_or moves n (move 0 0) ≡ move a q = sym is ∙ ap (λ x. move x m.to) (sym parts.0) ∙ ap (λ y. move a y) (sym parts.1) in
          let holds : P a q = both.1 n (omega arith) here in
          absurd (none (subst (λ x. P x m.to) parts.0 (subst (λ y. P a y) parts.1 holds)))
      | inr apart ↦
          same t (col w a q) (column_fits l w a q a_in q_in) (λ x. apart x.1) ∙ (h.here a q a_in q_in).1 (both.0, λ j j_in e. both.1 j (omega arith) e)
    ],
  );
  others = λ s c c_in apart. same s c c_in (λ x. apart x.0) ∙ h.others s c c_in apart;
}

-- the next move is by none of the letters, or P holds of it
pub arrival_left :
    (moves : List Move) (P : ℕ → ℕ → Type 0) (old now : List ℕ) (l w t n : ℕ) (m : Move)
    → HasClearedUpto moves P old now l w t n
    → m ≡ get_or moves n (move 0 0)
    → (m.label < l → P m.label m.to)
    → HasClearedUpto moves P old now l w t (n + 1)
arrival_left moves P old now l w t n m h is holds = record {
  here = λ a q a_in q_in. (
    λ cell.
        let was = (h.here a q a_in q_in).0 cell in (
          was.0,
          λ j j_in e. elim (cases_eq j n) [
            | inl f ↦
                let here : m ≡ move a q = is ∙ ap (λ i. get_or moves i (move 0 0)) (sym f) ∙ e in
                let Q : Move → Type 0 = λ x. x.label < l → P x.label x.to in
                subst Q here holds a_in
            | inr before ↦ was.1 j (omega arith) e
          ],
        ),
    λ both. (h.here a q a_in q_in).1 (both.0, λ j j_in e. both.1 j (omega arith) e),
  );
  others = h.others;
}

-- all moves have been tried
pub all_cleared :
    (moves : List Move) (goes : ℕ → ℕ → Type 0) (P : ℕ → ℕ → Type 0) (old now : List ℕ) (l w t n : ℕ)
    → ((a q : ℕ) → Contains moves (move a q) ↔ goes q a)
    → n ≡ length moves
    → HasClearedUpto moves P old now l w t n
    → (a q : ℕ)
    → a < l
    → q < w * 64
    → HasCell now (l * w) t (col w a q) ↔ (HasCell old (l * w) t (col w a q) × (goes q a → P a q))
all_cleared moves goes P old now l w t n lists all h a q a_in q_in = (
  λ cell.
      let was = (h.here a q a_in q_in).0 cell in (
        was.0,
        λ go.
            let (j, j_in, is) = (lists a q).1 go in
            was.1 j (omega arith) (get_or_default moves j (move 0 0) (move a q) j_in ∙ is),
      ),
  λ both. (h.here a q a_in q_in).1
      ((
        both.0,
        λ j j_in e. both.1 ((lists a q).0 (j, omega arith, get_or_default moves j (move a q) (move 0 0) (omega arith) ∙ e)),
      )),
)

pub bit_cases : (b : Bool) → (b ≡ true) ⊎ (b ≡ false)
bit_cases true = inl refl
bit_cases false = inr refl

-- a row has no bit past its end
pub bit_within : (row : List ℕ) (w q : ℕ) → length row ≡ w → HasBit row q → q < w * 64
bit_within row w q len bit = elim (cases_lt q (w * 64)) [
  | inl before ↦ before
  | inr from ↦ absurd (false≢true (sym (bit_past row q (omega arith)) ∙ bit))
]

word_left : (a b i : ℕ) → bit_at (bit_and a (bit_xor a b)) i ≡ min (bit_at a i) ((bit_at a i + bit_at b i) % 2)
word_left a b i = bit_at_and a (bit_xor a b) i ∙ ap (λ n. min (bit_at a i) n) (bit_at_xor a b i)

one_left : (x y : ℕ) → x < 2 → y < 2 → ((min x ((x + y) % 2) == 1) ≡ true) ↔ (((x == 1) ≡ true) × (((y == 1) ≡ true) → ⊥))
one_left x y x_bit y_bit = (
  λ h.
      let e = eqb-true (min x ((x + y) % 2)) 1 h in
      (eq-eqb x 1 (omega arith), λ t. let f = eqb-true y 1 t in absurd (omega arith)),
  λ is.
      let e = eqb-true x 1 is.0 in
      let none : ¬ (y ≡ 1) = λ f. is.1 (eq-eqb y 1 f) in
      eq-eqb (min x ((x + y) % 2)) 1 (omega arith),
)

-- the words of one row without those of another
pub left_others :
    (row old new : List ℕ)
    → length new ≡ length old
    → length old ≡ length row
    → ((k : ℕ) → k < length old → get_or new k 0 ≡ bit_and (get_or row k 0) (bit_xor (get_or row k 0) (get_or old k 0)))
    → (q : ℕ)
    → HasBit new q ↔ (HasBit row q × (HasBit old q → ⊥))
left_others row old new same_len len each q = elim (cases_lt (q / 64) (length old)) [
  | inl there ↦
      let word : bit_at (get_or new (q / 64) 0) (q % 64) ≡ min (bit_at (get_or row (q / 64) 0) (q % 64)) ((bit_at (get_or row (q / 64) 0) (q % 64) + bit_at (get_or old (q / 64) 0) (q % 64)) % 2) =
      ap (λ n. bit_at n (q % 64)) (each (q / 64) there) ∙ word_left (get_or row (q / 64) 0) (get_or old (q / 64) 0) (q % 64) in
      let both = one_left (bit_at (get_or row (q / 64) 0) (q % 64)) (bit_at (get_or old (q / 64) 0) (q % 64)) (bit_at-lt (get_or row (q / 64) 0) (q % 64)) (bit_at-lt (get_or old (q / 64) 0) (q % 64)) in
      (λ bit. both.0 (sym (ap (λ n. n == 1) word) ∙ bit), λ is. ap (λ n. n == 1) word ∙ both.1 is)
  | inr past ↦ (
    λ bit. absurd (false≢true (sym (bit_past new q (omega arith)) ∙ bit)),
    λ is. absurd (false≢true (sym (bit_past row q (omega arith)) ∙ is.0)),
  )
]

module _ (M : ℕ → ℕ → ℕ → Type 0) (ok W : ℕ → ℕ → Type 0) where
  -- For each letter the cells of row t are those from which a move leads to a matched state below n that t is related to; the other rows are
  -- those of the old table.
  pub record HasAnswersUpto (old now : List ℕ) (l w t n : ℕ) : Type 0 where
    pub here : (a q : ℕ) → a < l → q < w * 64
        → HasCell now (l * w) t (col w a q) ↔ ((r : ℕ) × (r < n) × M q a r × ok t r × W t r)
    pub others : (s c : ℕ) → c < l * w * 64 → ¬ (s ≡ t) → cell_of now (l * w) s c ≡ cell_of old (l * w) s c

  pub no_answers :
      (old now : List ℕ) (l w t : ℕ)
      → ((c : ℕ) → c < l * w * 64 → cell_of now (l * w) t c ≡ false)
      → ((s c : ℕ) → c < l * w * 64 → ¬ (s ≡ t) → cell_of now (l * w) s c ≡ cell_of old (l * w) s c)
      → HasAnswersUpto old now l w t 0
  no_answers old now l w t clear same = record {
    here = λ a q a_in q_in. (
      λ cell. absurd (false≢true (sym (clear (col w a q) (column_fits l w a q a_in q_in)) ∙ cell)),
      λ found. let lt = found.1 in absurd (omega arith),
    );
    others = λ s c c_in apart. same s c c_in apart;
  }

  -- the next state that t is related to matches
  pub answers_marked :
      (old now new : List ℕ) (l w t n r : ℕ)
      → HasAnswersUpto old now l w t n
      → n ≤ r
      → ((s : ℕ) → n ≤ s → s < r → W t s → ⊥)
      → W t r
      → ok t r
      → ((a q : ℕ) → a < l → q < w * 64 → HasCell new (l * w) t (col w a q) ↔ (HasCell now (l * w) t (col w a q) ⊎ M q a r))
      → ((s c : ℕ) → c < l * w * 64 → ¬ (s ≡ t) → cell_of new (l * w) s c ≡ cell_of now (l * w) s c)
      → HasAnswersUpto old new l w t (r + 1)
  answers_marked old now new l w t n r h upto none related match added same = record {
    here = λ a q a_in q_in. (
      λ cell. elim ((added a q a_in q_in).0 cell) [
        | inl was ↦ let f = (h.here a q a_in q_in).0 was in let lt = f.1 in (f.0, omega arith, f.2, f.3, f.4)
        | inr go ↦ (r, omega arith, go, match, related)
      ],
      λ (s, s_in, go, fits, is). (added a q a_in q_in).1 (elim (cases_eq s r) [
        | inl e ↦ inr (subst (M q a) e go)
        | inr apart ↦ elim (cases_lt s n) [
          | inl before ↦ inl ((h.here a q a_in q_in).1 (s, before, go, fits, is))
          | inr from ↦ absurd (none s from (omega arith) is)
        ]
      ]),
    );
    others = λ s c c_in apart. same s c c_in apart ∙ h.others s c c_in apart;
  }

  -- it does not match
  pub answers_passed :
      (old now : List ℕ) (l w t n r : ℕ)
      → HasAnswersUpto old now l w t n
      → n ≤ r
      → ((s : ℕ) → n ≤ s → s < r → W t s → ⊥)
      → (ok t r → ⊥)
      → HasAnswersUpto old now l w t (r + 1)
  answers_passed old now l w t n r h upto none apart_ok = record {
    here = λ a q a_in q_in. (
      λ cell. let f = (h.here a q a_in q_in).0 cell in let lt = f.1 in (f.0, omega arith, f.2, f.3, f.4),
      λ (s, s_in, go, fits, is). elim (cases_eq s r) [
        | inl e ↦ absurd (apart_ok (subst (ok t) e fits))
        | inr apart ↦ elim (cases_lt s n) [
          | inl before ↦ (h.here a q a_in q_in).1 (s, before, go, fits, is)
          | inr from ↦ absurd (none s from (omega arith) is)
        ]
      ],
    );
    others = h.others;
  }

  -- from n on t is related to none
  pub answers_done :
      (old now : List ℕ) (l w t n : ℕ)
      → HasAnswersUpto old now l w t n
      → ((s : ℕ) → n ≤ s → W t s → ⊥)
      → (a q : ℕ)
      → a < l
      → q < w * 64
      → HasCell now (l * w) t (col w a q) ↔ IsAnsweredAtOnce M ok W a t q
  answers_done old now l w t n h none a q a_in q_in = (
    λ cell. let f = (h.here a q a_in q_in).0 cell in (f.0, f.2, f.3, f.4),
    λ (s, go, fits, is). elim (cases_lt s n) [
      | inl before ↦ (h.here a q a_in q_in).1 (s, before, go, fits, is)
      | inr from ↦ absurd (none s from is)
    ],
  )

  -- Each first move is answered at once: then the round holds.
  pub answered_round : (k p q : ℕ) → 1 ≤ k → ((a r : ℕ) → M p a r → IsAnsweredAtOnce M ok W a r q) → Round M M ok k W p q
  answered_round k p q some all [] ps path may = absurd (elim may [ inl e ↦ omega arith | inr short ↦ let lt = short.0 in omega arith ])
  answered_round k p q some all (a ∷ w) [] path may = absurd path
  answered_round k p q some all (a ∷ w) (r ∷ ps) path may =
      let answer = all a r path.0 in
      (answer.0, answer.1, answer.2, inl answer.3)

  -- The states of the row answer the first n moves of the list at once.
  abbrev pub AnswerUpto : List Move → List ℕ → ℕ → Type 0
  AnswerUpto moves row n = (q j : ℕ) → HasBit row q → j < n → IsAnsweredAtOnce M ok W (get_or moves j (move 0 0)).label (get_or moves j (move 0 0)).to q

  pub answer_next :
      (moves : List Move) (now new : List ℕ) (n : ℕ) (m : Move)
      → AnswerUpto moves now n
      → m ≡ get_or moves n (move 0 0)
      → ((q : ℕ) → HasBit new q → HasBit now q × IsAnsweredAtOnce M ok W m.label m.to q)
      → AnswerUpto moves new (n + 1)
  answer_next moves now new n m h is kept q j bit j_in = elim (cases_eq j n) [
    | inl e ↦
        let P : Move → Type 0 = λ x. IsAnsweredAtOnce M ok W x.label x.to q in
        subst P (is ∙ ap (λ i. get_or moves i (move 0 0)) (sym e)) (kept q bit).1
    | inr apart ↦ h q j (kept q bit).0 (omega arith)
  ]

  pub answer_all :
      (moves : List Move) (row : List ℕ) (p n : ℕ)
      → ((a r : ℕ) → Contains moves (move a r) ↔ M p a r)
      → n ≡ length moves
      → AnswerUpto moves row n
      → (q a r : ℕ)
      → HasBit row q
      → M p a r
      → IsAnsweredAtOnce M ok W a r q
  answer_all moves row p n lists all h q a r bit go =
      let (j, j_in, is) = (lists a r).1 go in
      let here : get_or moves j (move 0 0) ≡ move a r = get_or_default moves j (move 0 0) (move a r) j_in ∙ is in
      let P : Move → Type 0 = λ x. IsAnsweredAtOnce M ok W x.label x.to q in
      subst P here (h q j bit (omega arith))

module _ (M : ℕ → ℕ → ℕ → Type 0) (ok W : ℕ → ℕ → Type 0) (lost : List ℕ) where
  -- t is related to r, or has lost it and r is not below n.
  abbrev pub WasRelatedFrom : ℕ → ℕ → ℕ → Type 0
  WasRelatedFrom n t r = W t r ⊎ (HasBit lost r × (n ≤ r))

  -- For each letter the cells of row t have all states that answer a move by it to t at once, and some that did so by a lost state from n on; the
  -- other rows are those of the old table.
  pub record HasForgottenUpto (old now : List ℕ) (l w t n : ℕ) : Type 0 where
    pub all : (a q : ℕ) → a < l → q < w * 64 → IsAnsweredAtOnce M ok W a t q → HasCell now (l * w) t (col w a q)
    pub only : (a q : ℕ) → a < l → q < w * 64 → HasCell now (l * w) t (col w a q) → IsAnsweredAtOnce M ok (WasRelatedFrom n) a t q
    pub others : (s c : ℕ) → c < l * w * 64 → ¬ (s ≡ t) → cell_of now (l * w) s c ≡ cell_of old (l * w) s c

  pub none_forgotten :
      (old : List ℕ) (l w t : ℕ)
      → ((a q : ℕ) → a < l → q < w * 64 → HasCell old (l * w) t (col w a q) ↔ IsAnsweredAtOnce M ok (λ p r. W p r ⊎ HasBit lost r) a t q)
      → HasForgottenUpto old old l w t 0
  none_forgotten old l w t before = record {
    all = λ a q a_in q_in (r, go, match, is). (before a q a_in q_in).1 (r, go, match, inl is);
    only = λ a q a_in q_in cell.
        let (r, go, match, is) = (before a q a_in q_in).0 cell in
        (r, go, match, elim is [ inl held ↦ inl held | inr bit ↦ inr (bit, omega arith) ]);
    others = λ s c c_in apart. refl;
  }

  -- the next lost state
  pub one_forgotten :
      (old now new : List ℕ) (l w t n r : ℕ)
      → HasForgottenUpto old now l w t n
      → IsNextBit lost n r
      → ((a q : ℕ) → a < l → q < w * 64 → HasCell new (l * w) t (col w a q) ↔ (HasCell now (l * w) t (col w a q) × (M q a r → IsAnsweredAtOnce M ok W a t q)))
      → ((s c : ℕ) → c < l * w * 64 → ¬ (s ≡ t) → cell_of new (l * w) s c ≡ cell_of now (l * w) s c)
      → HasForgottenUpto old new l w t (r + 1)
  one_forgotten old now new l w t n r h next cleared same = record {
    all = λ a q a_in q_in answer. (cleared a q a_in q_in).1 (h.all a q a_in q_in answer, λ go. answer);
    only = λ a q a_in q_in cell.
        let both = (cleared a q a_in q_in).0 cell in
        let (s, go, match, is) = h.only a q a_in q_in both.0 in
        elim is [
          | inl held ↦ (s, go, match, inl held)
          | inr (bit, from) ↦ elim (cases_eq s r) [
            | inl e ↦ let (x, moves, fits, held) = both.1 (subst (M q a) e go) in (x, moves, fits, inl held)
            | inr apart ↦ elim (cases_lt s r) [
              | inl before ↦ absurd (false≢true (sym (next.none_between s from before) ∙ bit))
              | inr after ↦ (s, go, match, inr (bit, omega arith))
            ]
          ]
        ];
    others = λ s c c_in apart. same s c c_in apart ∙ h.others s c c_in apart;
  }

  -- no lost state is left
  pub all_forgotten :
      (old now : List ℕ) (l w t n : ℕ)
      → HasForgottenUpto old now l w t n
      → ((r : ℕ) → n ≤ r → bit_of lost r ≡ false)
      → (a q : ℕ)
      → a < l
      → q < w * 64
      → HasCell now (l * w) t (col w a q) ↔ IsAnsweredAtOnce M ok W a t q
  all_forgotten old now l w t n h none a q a_in q_in = (
    λ cell.
        let (s, go, match, is) = h.only a q a_in q_in cell in
        (s, go, match, elim is [ inl held ↦ held | inr (bit, from) ↦ absurd (false≢true (sym (none s from) ∙ bit)) ]),
    λ answer. h.all a q a_in q_in answer,
  )

-- other rows are as they were
pub answers_kept :
    (M : ℕ → ℕ → ℕ → Type 0) (ok W : ℕ → ℕ → Type 0) (old new : Answering) (p : ℕ)
    → new.labels ≡ old.labels
    → new.width ≡ old.width
    → ((c : ℕ) → c < old.labels * old.width * 64 → cell_of new.table.items (old.labels * old.width) p c ≡ cell_of old.table.items (old.labels * old.width) p c)
    → IsRowOfAnswers M ok W old p
    → IsRowOfAnswers M ok W new p
answers_kept M ok W old new p labels width same h = λ a q a_in q_in.
    let P : ℕ → ℕ → Type 0 = λ l w. a < l → q < w * 64 → HasCell new.table.items (l * w) p (a * w * 64 + q) ↔ IsAnsweredAtOnce M ok W a p q in
    let here : P old.labels old.width = λ b_in s_in.
    let is = h a q b_in s_in in
    let cell = same (a * old.width * 64 + q) (column_fits old.labels old.width a q b_in s_in) in
    (λ there. is.0 (sym cell ∙ there), λ answer. cell ∙ is.1 answer) in
    subst (λ l. P l new.width) (sym labels) (subst (λ w. P old.labels w) (sym width) here) a_in q_in

-- the row of a state stays right where its words stay
pub arrivals_kept :
    (M : ℕ → ℕ → ℕ → Type 0) (old new : Arrivals) (r : ℕ)
    → new.labels ≡ old.labels
    → new.width ≡ old.width
    → ((c : ℕ) → c < old.labels * old.width * 64 → cell_of new.table.items (old.labels * old.width) r c ≡ cell_of old.table.items (old.labels * old.width) r c)
    → IsRowOfArrivals M old r
    → IsRowOfArrivals M new r
arrivals_kept M old new r labels width same h = λ a q a_in q_in.
    let P : ℕ → ℕ → Type 0 = λ l w. a < l → q < w * 64 → HasCell new.table.items (l * w) r (a * w * 64 + q) ↔ M q a r in
    let here : P old.labels old.width = λ b_in s_in.
    let is = h a q b_in s_in in
    let cell = same (a * old.width * 64 + q) (column_fits old.labels old.width a q b_in s_in) in
    (λ there. is.0 (sym cell ∙ there), λ goes. cell ∙ is.1 goes) in
    subst (λ l. P l new.width) (sym labels) (subst (λ w. P old.labels w) (sym width) here) a_in q_in

-- a row that was written with the old sizes is right with the new ones, which are the same
pub arrivals_written :
    (M : ℕ → ℕ → ℕ → Type 0) (old new : Arrivals) (r : ℕ)
    → new.labels ≡ old.labels
    → new.width ≡ old.width
    → ((a q : ℕ) → a < old.labels → q < old.width * 64 → HasCell new.table.items (old.labels * old.width) r (a * old.width * 64 + q) ↔ M q a r)
    → IsRowOfArrivals M new r
arrivals_written M old new r labels width h = λ a q a_in q_in.
    let P : ℕ → ℕ → Type 0 = λ l w. a < l → q < w * 64 → HasCell new.table.items (l * w) r (a * w * 64 + q) ↔ M q a r in
    let here : P old.labels old.width = h a q in
    subst (λ l. P l new.width) (sym labels) (subst (λ w. P old.labels w) (sym width) here) a_in q_in
