-- Columns of a table that has one word for each state: one for each of 64 places.
use Rattle.std.proofs.Common.{◌≡◌, ℕ, ◌+◌, ◌-◌, ◌*◌, ◌/◌, ◌%◌, ◌<◌, ◌≤◌, ◌⊎◌, ◌↔◌, ◌==◌, ◌||◌, inl, inr, false, List, length, slice_index, set, take, drop, length-drop, bit_or, sym, ap, ap₂, ◌∙◌, subst, arith}
use Rattle.std.specs.Int.{bit_at}
use Rattle.std.proofs.lemmas.Bool.{cases_eq, or_cases, or_left, or_right, false≢true}
use Rattle.std.proofs.Math.Nat.{add-mul, mul-le-mul_right}
use Rattle.std.proofs.lemmas.List.{get_or-set_same, get_or-set_other, get_or-drop, take_all}
use Rattle.auto_core.specs.Automaton.{Automaton, IsAutomaton, Moves, trans_at}
use Rattle.auto_core.specs.declared.parts.Trans.{Trans}
use Rattle.auto_core.specs.Rows.{bit_of, cell_of, HasCell}
use Rattle.auto_core.proofs.BitLemmas.{bit_or_tests}
use Rattle.auto_core.proofs.CellLemmas.{cell_at}
use Rattle.auto_core.proofs.MoveLemmas.{number_of, move_at, move_in_range}
use Rattle.delayed_game.specs.Before.{LeadsToColumn}
use Rattle.delayed_game.specs.Boards.{row_words, HasFreshAnswer}

-- a column of a state
column_at : (words : List ℕ) (q j : ℕ) → j < 64 → cell_of words 1 q j ≡ (bit_at (slice_index words q) j == 1)
column_at words q j j_in =
    let word : q * 1 + j / 64 ≡ q = omega arith in
    let place : j % 64 ≡ j = omega arith in
    cell_at words 1 q j ∙ ap₂ (λ k i. bit_at (slice_index words k) i == 1) word place

-- The words of the states have the columns of the states that the first n transitions lead to by the letter.
abbrev pub AreColumnsFound : Automaton → List ℕ → List ℕ → ℕ → ℕ → Type 0
AreColumnsFound A words found a n = (q j : ℕ) → j < 64 → HasCell found 1 q j
    ↔ ((i : ℕ) × (i < n) × ((trans_at A i).source ≡ q) × ((trans_at A i).label ≡ a) × HasCell words 1 (trans_at A i).target j)

pub columns_none : (A : Automaton) (words found : List ℕ) (a : ℕ) → ((i : ℕ) → bit_of found i ≡ false) → AreColumnsFound A words found a 0
columns_none A words found a clear q j j_in = (λ cell. absurd (false≢true (sym (clear (q * 1 * 64 + j)) ∙ cell)), λ is. let lt = is.1 in absurd (omega arith))

-- the next transition has another letter
pub columns_passed :
    (A : Automaton) (words found : List ℕ) (a n : ℕ) (m : Trans)
    → m ≡ trans_at A n
    → ¬ (m.label ≡ a)
    → AreColumnsFound A words found a n
    → AreColumnsFound A words found a (n + 1)
columns_passed A words found a n m is other h q j j_in = (
  λ cell. let f = (h q j j_in).0 cell in let lt = f.1 in (f.0, omega arith, f.2, f.3, f.4),
  λ f. elim (cases_eq f.0 n) [
    | inl last ↦ absurd (other (ap (λ (x : Trans). x.label) (is ∙ ap (trans_at A) (sym last)) ∙ f.3))
    | inr apart ↦ let lt = f.1 in (h q j j_in).1 (f.0, omega arith, f.2, f.3, f.4)
  ],
)

-- it has the letter
pub columns_more :
    (A : Automaton) (words found : List ℕ) (a n : ℕ) (m : Trans)
    → m ≡ trans_at A n
    → m.label ≡ a
    → m.source < length found
    → AreColumnsFound A words found a n
    → AreColumnsFound A words (set found m.source (bit_or (slice_index found m.source) (slice_index words m.target))) a (n + 1)
columns_more A words found a n m is label s_in h q j j_in =
    let S : Trans → Type 0 = λ x. x.source ≡ q in
    let L : Trans → Type 0 = λ x. x.label ≡ a in
    let C : Trans → Type 0 = λ x. HasCell words 1 x.target j in
    let word = bit_or (slice_index found m.source) (slice_index words m.target) in
    let new = set found m.source word in
    elim (cases_eq q m.source) [
      | inl e ↦
          let here : slice_index new q ≡ word = ap (slice_index new) e ∙ get_or-set_same found m.source word 0 s_in in
          let old : (bit_at (slice_index found m.source) j == 1) ≡ cell_of found 1 q j = ap (λ k. bit_at (slice_index found k) j == 1) (sym e) ∙ sym (column_at found q j j_in) in
          let both : cell_of new 1 q j ≡ (cell_of found 1 q j || cell_of words 1 m.target j) =
          column_at new q j j_in
          ∙ ap (λ w. bit_at w j == 1) here
          ∙ bit_or_tests (slice_index found m.source) (slice_index words m.target) j
          ∙ ap₂ (λ x y. x || y) old (sym (column_at words m.target j j_in)) in (
            λ cell. elim (or_cases (cell_of found 1 q j) (cell_of words 1 m.target j) (sym both ∙ cell)) [
              | inl was ↦ let f = (h q j j_in).0 was in let lt = f.1 in (f.0, omega arith, f.2, f.3, f.4)
              | inr column ↦ (n, omega arith, subst S is (sym e), subst L is label, subst C is column)
            ],
            λ f. both ∙ elim (cases_eq f.0 n) [
              | inl last ↦ or_right (cell_of found 1 q j) (cell_of words 1 m.target j) (subst C (ap (trans_at A) last ∙ sym is) f.4)
              | inr apart ↦ let lt = f.1 in or_left (cell_of found 1 q j) (cell_of words 1 m.target j) ((h q j j_in).1 (f.0, omega arith, f.2, f.3, f.4))
            ],
          )
      | inr apart ↦
          let same : cell_of new 1 q j ≡ cell_of found 1 q j =
          column_at new q j j_in ∙ ap (λ w. bit_at w j == 1) (get_or-set_other found m.source q word 0 apart) ∙ sym (column_at found q j j_in) in (
            λ cell. let f = (h q j j_in).0 (sym same ∙ cell) in let lt = f.1 in (f.0, omega arith, f.2, f.3, f.4),
            λ f. same ∙ elim (cases_eq f.0 n) [
              | inl last ↦ absurd (apart (sym (subst S (ap (trans_at A) last ∙ sym is) f.2)))
              | inr before ↦ let lt = f.1 in (h q j j_in).1 (f.0, omega arith, f.2, f.3, f.4)
            ],
          )
    ]

pub columns_all :
    (A : Automaton) (words found : List ℕ) (a n : ℕ)
    → length A.transitions ≤ n
    → n ≤ length A.transitions
    → AreColumnsFound A words found a n
    → (q j : ℕ)
    → j < 64
    → HasCell found 1 q j ↔ LeadsToColumn A words a j q
columns_all A words found a n upto within h q j j_in = (
  λ cell.
      let f = (h q j j_in).0 cell in
      let lt = f.1 in
      let by_source = subst (λ x. Moves A x (trans_at A f.0).label (trans_at A f.0).target) f.2 (move_at A f.0 (omega arith)) in
      ((trans_at A f.0).target, subst (λ x. Moves A q x (trans_at A f.0).target) f.3 by_source, f.4),
  λ leads.
      let t = number_of A q a leads.0 leads.1 in
      let lt = t.1 in
      (h q j j_in).1 (
        t.0,
        omega arith,
        ap (λ (x : Trans). x.source) t.2,
        ap (λ (x : Trans). x.label) t.2,
        subst (λ x. HasCell words 1 x j) (sym (ap (λ (x : Trans). x.target) t.2)) leads.2,
      ),
)

-- a table from a row on
pub rest_cell :
    (table : List ℕ) (width first r q : ℕ)
    → cell_of (take (length table - first * width) (drop (first * width) table)) width r q ≡ cell_of table width (first + r) q
rest_cell table width first r q =
    let rest = drop (first * width) table in
    let place : first * width + (r * width + q / 64) ≡ (first + r) * width + q / 64 = omega (arith, add-mul first r width) in
    ap (λ xs. cell_of xs width r q) (take_all (length table - first * width) rest (omega (arith, length-drop (first * width) table)))
    ∙ cell_at rest width r q
    ∙ ap (λ w. bit_at w (q % 64) == 1) (get_or-drop (first * width) table (r * width + q / 64) 0 ∙ ap (slice_index table) place)
    ∙ sym (cell_at table width (first + r) q)

pub rest_fits :
    (table : List ℕ) (width first count places : ℕ)
    → length table ≡ places * width
    → first + count ≤ places
    → count * width ≤ length (take (length table - first * width) (drop (first * width) table))
rest_fits table width first count places len fits =
    let k = first * width in
    let rest : length (take (length table - k) (drop k table)) ≡ length table - k = ap length (take_all (length table - k) (drop k table) (omega (arith, length-drop k table))) ∙ length-drop k table in
    omega (arith, add-mul first count width, mul-le-mul_right width fits)

-- The rows of the first n transitions have the rows of their columns besides, as far as they have the letter and lead into the block.
abbrev pub AreRowsNoted : Automaton → List ℕ → List ℕ → List ℕ → ℕ → ℕ → ℕ → ℕ → Type 0
AreRowsNoted L old now made w a block n = (t q : ℕ) → t < length L.transitions → q < w * 64 → HasCell now w t q
    ↔ (HasCell old w t q
    ⊎ ((t < n) × ((trans_at L t).label ≡ a) × ((trans_at L t).target / 64 ≡ block) × HasCell made w ((trans_at L t).target % 64) q))

pub noted_none : (L : Automaton) (old made : List ℕ) (w a block : ℕ) → AreRowsNoted L old old made w a block 0
noted_none L old made w a block t q t_in near = (λ cell. inl cell, λ either. elim either [ inl cell ↦ cell | inr is ↦ let lt = is.0 in absurd (omega arith) ])

-- the next transition has another letter, or it leads elsewhere
pub noted_passed :
    (L : Automaton) (old now made : List ℕ) (w a block n : ℕ)
    → (((trans_at L n).label ≡ a) → ((trans_at L n).target / 64 ≡ block) → ⊥)
    → AreRowsNoted L old now made w a block n
    → AreRowsNoted L old now made w a block (n + 1)
noted_passed L old now made w a block n apart h t q t_in near = (
  λ cell. elim ((h t q t_in near).0 cell) [ inl first ↦ inl first | inr is ↦ let lt = is.0 in inr (omega arith, is.1, is.2, is.3) ],
  λ either. (h t q t_in near).1 (elim either [
    | inl first ↦ inl first
    | inr is ↦ elim (cases_eq t n) [
      | inl e ↦ absurd (apart (subst (λ x. (trans_at L x).label ≡ a) e is.1) (subst (λ x. (trans_at L x).target / 64 ≡ block) e is.2))
      | inr far ↦ let lt = is.0 in inr (omega arith, is.1, is.2, is.3)
    ]
  ]),
)

pub noted_more :
    (L : Automaton) (old now new made row : List ℕ) (w a block n : ℕ)
    → (trans_at L n).label ≡ a
    → (trans_at L n).target / 64 ≡ block
    → ((q : ℕ) → q < w * 64 → bit_of row q ≡ cell_of made w ((trans_at L n).target % 64) q)
    → ((q : ℕ) → q < w * 64 → cell_of new w n q ≡ (cell_of now w n q || bit_of row q))
    → ((t q : ℕ) → q < w * 64 → ¬ (t ≡ n) → cell_of new w t q ≡ cell_of now w t q)
    → AreRowsNoted L old now made w a block n
    → AreRowsNoted L old new made w a block (n + 1)
noted_more L old now new made row w a block n label into bits here others h t q t_in near = elim (cases_eq t n) [
  | inl e ↦
      let P : ℕ → Type 0 = λ x. (trans_at L x).label ≡ a in
      let Q : ℕ → Type 0 = λ x. (trans_at L x).target / 64 ≡ block in
      let M : ℕ → Type 0 = λ x. HasCell made w ((trans_at L x).target % 64) q in
      let is : cell_of new w t q ≡ (cell_of now w t q || bit_of row q) = subst (λ x. cell_of new w x q ≡ (cell_of now w x q || bit_of row q)) (sym e) (here q near) in (
        λ cell. elim (or_cases (cell_of now w t q) (bit_of row q) (sym is ∙ cell)) [
          | inl was ↦ elim ((h t q t_in near).0 was) [ inl first ↦ inl first | inr x ↦ let lt = x.0 in inr (omega arith, x.1, x.2, x.3) ]
          | inr bit ↦ inr (omega arith, subst P (sym e) label, subst Q (sym e) into, subst M (sym e) (sym (bits q near) ∙ bit))
        ],
        λ either. is ∙ elim either [
          | inl first ↦ or_left (cell_of now w t q) (bit_of row q) ((h t q t_in near).1 (inl first))
          | inr x ↦ or_right (cell_of now w t q) (bit_of row q) (bits q near ∙ subst M e x.3)
        ],
      )
  | inr apart ↦
      let same = others t q near apart in (
        λ cell. elim ((h t q t_in near).0 (sym same ∙ cell)) [ inl first ↦ inl first | inr x ↦ let lt = x.0 in inr (omega arith, x.1, x.2, x.3) ],
        λ either. same ∙ (h t q t_in near).1 (elim either [ inl first ↦ inl first | inr x ↦ let lt = x.0 in inr (omega arith, x.1, x.2, x.3) ]),
      )
]

-- What a column of the states tells of the row of its place.
abbrev pub HaveColumns : ℕ → ℕ → List ℕ → ℕ → ℕ → List ℕ → Type 0
HaveColumns states places fresh w block words = (q j : ℕ) → q < states → j < 64 → HasCell words 1 q j ↔ ((block * 64 + j < places) × HasCell fresh w (block * 64 + j) q)

pub column_answers :
    (L A : Automaton) (fresh words : List ℕ) (w block t q : ℕ)
    → IsAutomaton L
    → IsAutomaton A
    → w ≡ row_words A
    → HaveColumns A.states L.states fresh w block words
    → t < length L.transitions
    → (trans_at L t).target / 64 ≡ block
    → LeadsToColumn A words (trans_at L t).label ((trans_at L t).target % 64) q ↔ HasFreshAnswer L A fresh t q
column_answers L A fresh words w block t q over valid width have t_in into =
    let to = (trans_at L t).target in
    let place : block * 64 + to % 64 ≡ to = omega arith in
    let j_in : to % 64 < 64 = omega arith in
    let to_in : to < L.states = (move_in_range L over (trans_at L t).source (trans_at L t).label to (move_at L t t_in)).1 in
    let right : (q' : ℕ) → Moves A q (trans_at L t).label q' → q' < A.states = λ q' move. (move_in_range A valid q (trans_at L t).label q' move).1 in (
      λ leads.
          let cell = ((have leads.0 (to % 64) (right leads.0 leads.1) j_in).0 leads.2).1 in
          (leads.0, leads.1, subst (λ v. HasCell fresh v to leads.0) width (subst (λ x. HasCell fresh w x leads.0) place cell)),
      λ answer.
          let cell = subst (λ x. HasCell fresh w x answer.0) (sym place) (subst (λ v. HasCell fresh v to answer.0) (sym width) answer.2) in
          (answer.0, answer.1, (have answer.0 (to % 64) (right answer.0 answer.1) j_in).1 (omega arith, cell)),
    )
