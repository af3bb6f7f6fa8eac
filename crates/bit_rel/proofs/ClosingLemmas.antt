-- Closing a table by way of ever more places.
use Rattle.std.proofs.Common.{◌≡◌, ℕ, zero, suc, ◌+◌, ◌*◌, ◌/◌, ◌%◌, ◌^◌, ◌<◌, ◌≤◌, ◌⊎◌, ◌↔◌, inl, inr, Bool, true, false, ◌||◌, ◌&&◌, ◌==◌, ltb, List, length, get_or, set, bit_or, refl, sym, ap, ◌∙◌, subst, arith, get_or-set_same}
use Rattle.std.proofs.lemmas.Bool.{false≢true, cases_eq, cases_lt, cases_order, or_cases, or_left, or_right, and_parts, and_from, and_right, eqb-true, eq-eqb, ne_eqb, lt-ltb, le-ltb}
use Rattle.std.proofs.lemmas.List.{get_or-set_other}
use Rattle.std.proofs.lemmas.Nat.{row_fits, one_shl}
use Rattle.std.proofs.lemmas.Nat.Bits.{bit_at-zero, bit_at-pow_other}
use Rattle.std.specs.Int.{bit_at}
use Rattle.auto_core.proofs.BitLemmas.{bit_or_tests}
use Rattle.auto_core.proofs.CellLemmas.{cell_at}
use Rattle.auto_core.proofs.ReachLemmas.{close_trans, close_one, close_refl}
use Rattle.auto_core.specs.Rows.{cell_of, HasCell}
use Rattle.auto_core.specs.Reach.{IsTable, HasArc}
use Rattle.auto_core.specs.Game.{Chain, Close, Holds}
use Rattle.bit_rel.specs.Relation.{Relation, IsClosed, IsPreorder}

-- a word that is the row's own bit has no other
pub own_bit_alone :
    (table : List ℕ) (w at q : ℕ)
    → get_or table (at * w + at / 64) 0 ≡ 1 * 2 ^ (at % 64) % 2 ^ 64
    → q / 64 ≡ at / 64
    → HasCell table w at q
    → q ≡ at
own_bit_alone table w at q is same cell =
    let word = get_or table (at * w + at / 64) 0 in
    let own : word ≡ 2 ^ (at % 64) = is ∙ one_shl (at % 64) 64 (omega arith) in
    let here : (bit_at (get_or table (at * w + q / 64) 0) (q % 64) == 1) ≡ true = sym (cell_at table w at q) ∙ cell in
    let bit : bit_at (2 ^ (at % 64)) (q % 64) ≡ 1 =
    ap (λ x. bit_at x (q % 64)) (sym own) ∙ ap (λ k. bit_at (get_or table (at * w + k) 0) (q % 64)) (sym same) ∙ eqb-true (bit_at (get_or table (at * w + q / 64) 0) (q % 64)) 1 here in
    elim (cases_eq (q % 64) (at % 64)) [
      | inl e ↦ omega arith
      | inr apart ↦ let none = bit_at-pow_other (at % 64) (q % 64) apart in absurd (omega arith)
    ]

-- The table holds the old arcs and each place with itself, only pairs of the closure, and it is closed by way of the places
-- below `via`.
pub record IsClosing (old now : List ℕ) (count width via : ℕ) : Type 0 where
  pub table : IsTable now count width
  pub sound : (p q : ℕ) → HasArc now count width p q → Close (HasArc old count width) p q
  pub keeps : (p q : ℕ) → HasArc old count width p q → HasArc now count width p q
  pub selves : (p : ℕ) → p < count → HasCell now width p p
  pub through : (m p q : ℕ) → m < via → HasArc now count width p m → HasArc now count width m q → HasArc now count width p q

-- the table with each place related to itself
pub begin_closing :
    (old now : List ℕ) (count width : ℕ)
    → IsTable old count width
    → length now ≡ length old
    → ((p q : ℕ) → p < count → q < width * 64 → cell_of now width p q ≡ (cell_of old width p q || p == q))
    → IsClosing old now count width 0
begin_closing old now count width t len cells = record {
  table = record {
    len = len ∙ t.len;
    room = t.room;
    columns = λ p q p_in near h. elim (cases p q p_in near h) [ inl was ↦ t.columns p q p_in near was | inr same ↦ omega arith ];
  };
  sound = λ p q (p_in, q_in, h). elim (cases p q p_in (near q q_in) h) [
    | inl was ↦ close_one (HasArc old count width) p q (p_in, q_in, was)
    | inr same ↦ subst (Close (HasArc old count width) p) same (close_refl (HasArc old count width) p)
  ];
  keeps = λ p q (p_in, q_in, h). (p_in, q_in, cells p q p_in (near q q_in) ∙ or_left (cell_of old width p q) (p == q) h);
  selves = λ p p_in. cells p p p_in (near p p_in) ∙ or_right (cell_of old width p p) (p == p) (eq-eqb p p refl);
  through = λ m p q m_in a b. absurd (omega arith);
}
  where
    near : (q : ℕ) → q < count → q < width * 64
    near q q_in = let room = t.room in omega arith

    cases : (p q : ℕ) → p < count → q < width * 64 → HasCell now width p q → HasCell old width p q ⊎ (p ≡ q)
    cases p q p_in q_near h = elim (or_cases (cell_of old width p q) (p == q) (sym (cells p q p_in q_near) ∙ h)) [
      | inl was ↦ inl was
      | inr same ↦ inr (eqb-true p q same)
    ]

-- one more place is passed through
pub pass_closing :
    (old now new : List ℕ) (count width via : ℕ)
    → IsClosing old now count width via
    → via < count
    → length new ≡ length now
    → ((p q : ℕ) → p < count → q < width * 64 → cell_of new width p q ≡ (cell_of now width p q || (cell_of now width p via && cell_of now width via q)))
    → IsClosing old new count width (suc via)
pass_closing old now new count width via c via_in len cells = record {
  table = record {
    len = len ∙ t.len;
    room = t.room;
    columns = λ p q p_in q_near h. elim (cases p q p_in q_near h) [
      | inl was ↦ t.columns p q p_in q_near was
      | inr way ↦ t.columns via q via_in q_near way.1
    ];
  };
  sound = λ p q a. elim (arcs p q a) [
    | inl was ↦ c.sound p q was
    | inr way ↦ close_trans (HasArc old count width) p via q (c.sound p via way.0) (c.sound via q way.1)
  ];
  keeps = λ p q a. more p q (c.keeps p q a);
  selves = λ p p_in. (more p p (p_in, p_in, c.selves p p_in)).2;
  through = λ m p q m_in a b. elim (cases_eq m via) [
    | inl e ↦ by_way p q (to_via p (subst (λ x. HasArc new count width p x) e a)) (from_via q (subst (λ x. HasArc new count width x q) e b))
    | inr apart ↦ elim (arcs p m a) [
      | inl pm ↦ elim (arcs m q b) [
        | inl mq ↦ more p q (c.through m p q (omega arith) pm mq)
        | inr way ↦ by_way p q (c.through m p via (omega arith) pm way.0) way.1
      ]
      | inr pv ↦ elim (arcs m q b) [
        | inl mq ↦ by_way p q pv.0 (c.through m via q (omega arith) pv.1 mq)
        | inr way ↦ by_way p q pv.0 way.1
      ]
    ]
  ];
}
  where
    t : IsTable now count width
    t = c.table

    near : (q : ℕ) → q < count → q < width * 64
    near q q_in = let room = c.table.room in omega arith

    cases : (p q : ℕ) → p < count → q < width * 64 → HasCell new width p q → HasCell now width p q ⊎ (HasCell now width p via × HasCell now width via q)
    cases p q p_in q_near h =
        elim (or_cases (cell_of now width p q) (cell_of now width p via && cell_of now width via q) (sym (cells p q p_in q_near) ∙ h)) [
          | inl was ↦ inl was
          | inr both ↦ inr (and_parts (cell_of now width p via) (cell_of now width via q) both)
        ]

    arcs : (p q : ℕ) → HasArc new count width p q → HasArc now count width p q ⊎ (HasArc now count width p via × HasArc now count width via q)
    arcs p q (p_in, q_in, h) = elim (cases p q p_in (near q q_in) h) [
      | inl was ↦ inl (p_in, q_in, was)
      | inr way ↦ inr ((p_in, via_in, way.0), (via_in, q_in, way.1))
    ]

    more : (p q : ℕ) → HasArc now count width p q → HasArc new count width p q
    more p q (p_in, q_in, h) =
        (p_in, q_in, cells p q p_in (near q q_in) ∙ or_left (cell_of now width p q) (cell_of now width p via && cell_of now width via q) h)

    by_way : (p q : ℕ) → HasArc now count width p via → HasArc now count width via q → HasArc new count width p q
    by_way p q (p_in, v_in, h) (v_in2, q_in, k) =
        (p_in, q_in, cells p q p_in (near q q_in) ∙ or_right (cell_of now width p q) (cell_of now width p via && cell_of now width via q) (and_from (cell_of now width p via) (cell_of now width via q) h k))

    to_via : (p : ℕ) → HasArc new count width p via → HasArc now count width p via
    to_via p a = elim (arcs p via a) [ inl was ↦ was | inr way ↦ way.0 ]

    from_via : (q : ℕ) → HasArc new count width via q → HasArc now count width via q
    from_via q a = elim (arcs via q a) [ inl was ↦ was | inr way ↦ way.1 ]

-- what is closed by way of all places is the closure
pub closed_table :
    (old now : List ℕ) (count width via : ℕ)
    → IsClosing old now count width via
    → count ≤ via
    → (p q : ℕ)
    → HasArc now count width p q ↔ ((p < count) × (q < count) × Close (HasArc old count width) p q)
closed_table old now count width via c all p q = (
  λ a. (a.0, a.1, c.sound p q a),
  λ (p_in, q_in, way). along way.0 p p_in way.1,
)
  where
    along : (n p : ℕ) → p < count → Chain (HasArc old count width) n p q → HasArc now count width p q
    along zero p p_in e = subst (HasArc now count width p) e (p_in, p_in, c.selves p p_in)
    along (suc n) p p_in (r, step, rest) =
        let r_in = step.1 in
        c.through r p q (omega arith) (c.keeps p r step) (along n r step.1 rest)

-- chains of a relation that has the same pairs
pub close_same : (R S : ℕ → ℕ → Type 0) → ((p q : ℕ) → R p q → S p q) → (p q : ℕ) → Close R p q → Close S p q
close_same R S to p q (n, chain) = (n, along n p chain)
  where
    along : (n p : ℕ) → Chain R n p q → Chain S n p q
    along zero p e = e
    along (suc n) p (r, step, rest) = (r, to p r step, along n r rest)

-- one more word of a row is joined by the one of another row
abbrev pub IsRowMerged : List ℕ → List ℕ → ℕ → ℕ → ℕ → Type 0
IsRowMerged old now a b j =
    ((k : ℕ) → k < j → get_or now (a + k) 0 ≡ bit_or (get_or old (a + k) 0) (get_or old (b + k) 0))
    × ((k : ℕ) → a + j ≤ k → get_or now k 0 ≡ get_or old k 0)
    × ((k : ℕ) → k < a → get_or now k 0 ≡ get_or old k 0)

abbrev merged_word : List ℕ → ℕ → ℕ → ℕ → ℕ
merged_word now a b j = bit_or (get_or now (a + j) 0) (get_or now (b + j) 0)

merge_one :
    (old now : List ℕ) (w a b j : ℕ)
    → j < w
    → a + w ≤ length now
    → ((a ≡ b) ⊎ ((a + w ≤ b) ⊎ (b + w ≤ a)))
    → IsRowMerged old now a b j
    → IsRowMerged old (set now (a + j) (bit_or (get_or now (a + j) 0) (get_or now (b + j) 0))) a b (j + 1)
merge_one old now w a b j j_in fits apart (done, after, before) = (
  λ k k_in. elim (cases_eq k j) [
    | inl e ↦ rw e (get_or-set_same now (a + j) (merged_word now a b j) 0 (omega arith) ∙ joined)
    | inr n ↦ get_or-set_other now (a + j) (a + k) (merged_word now a b j) 0 (λ e. n (omega arith)) ∙ done k (omega arith)
  ],
  λ k k_in. get_or-set_other now (a + j) k (merged_word now a b j) 0 (λ e. omega arith) ∙ after k (omega arith),
  λ k k_in. get_or-set_other now (a + j) k (merged_word now a b j) 0 (λ e. omega arith) ∙ before k k_in,
)
  where
    read : get_or now (b + j) 0 ≡ get_or old (b + j) 0
    read = elim apart [
      | inl e ↦ after (b + j) (omega arith)
      | inr far ↦ elim far [ inl below ↦ after (b + j) (omega arith) | inr above ↦ before (b + j) (omega arith) ]
    ]

    joined : merged_word now a b j ≡ bit_or (get_or old (a + j) 0) (get_or old (b + j) 0)
    joined = ap (λ x. bit_or x (get_or now (b + j) 0)) (after (a + j) (omega arith)) ∙ ap (λ y. bit_or (get_or old (a + j) 0) y) read

rows_apart : (p r w : ℕ) → ((p * w ≡ r * w) ⊎ ((p * w + w ≤ r * w) ⊎ (r * w + w ≤ p * w)))
rows_apart p r w = elim (cases_order p r) [
  | inl e ↦ inl (ap (λ x. x * w) e)
  | inr far ↦ elim far [ inl below ↦ inr (inl (row_fits p w r w below (omega arith))) | inr above ↦ inr (inr (row_fits r w p w above (omega arith))) ]
]

pub merge_word :
    (old now : List ℕ) (w p r j : ℕ)
    → j < w
    → p * w + w ≤ length now
    → IsRowMerged old now (p * w) (r * w) j
    → IsRowMerged old (set now (p * w + j) (bit_or (get_or now (p * w + j) 0) (get_or now (r * w + j) 0))) (p * w) (r * w) (j + 1)
merge_word old now w p r j j_in fits merged = merge_one old now w (p * w) (r * w) j j_in fits (rows_apart p r w) merged

pub row_merged :
    (old now : List ℕ) (w p r : ℕ)
    → ((k : ℕ) → k < w → get_or now (p * w + k) 0 ≡ bit_or (get_or old (p * w + k) 0) (get_or old (r * w + k) 0))
    → (q : ℕ)
    → q < w * 64
    → cell_of now w p q ≡ (cell_of old w p q || cell_of old w r q)
row_merged old now w p r each q q_in =
    let word_in : q / 64 < w = omega arith in
    rw (cell_at now w p q, cell_at old w p q, cell_at old w r q)
    (ap (λ n. bit_at n (q % 64) == 1) (each (q / 64) word_in) ∙ bit_or_tests (get_or old (p * w + q / 64) 0) (get_or old (r * w + q / 64) 0) (q % 64))

-- one more place is related to itself
pub one_self :
    (old now new : List ℕ) (w n : ℕ)
    → ((r q : ℕ) → q < w * 64 → cell_of now w r q ≡ (cell_of old w r q || (ltb r n && r == q)))
    → cell_of new w n n ≡ true
    → ((r q : ℕ) → q < w * 64 → ¬ ((r ≡ n) × (q ≡ n)) → cell_of new w r q ≡ cell_of now w r q)
    → (r q : ℕ)
    → q < w * 64
    → cell_of new w r q ≡ (cell_of old w r q || (ltb r (n + 1) && r == q))
one_self old now new w n each here others r q q_near = elim (cases_eq r n) [
  | inl e ↦ elim (cases_eq q n) [
    | inl f ↦
        let is : cell_of new w r q ≡ true = rw (e, f) here in
        is ∙ sym (or_right (cell_of old w r q) (ltb r (n + 1) && r == q) (and_from (ltb r (n + 1)) (r == q) (lt-ltb r (n + 1) (omega arith)) (eq-eqb r q (e ∙ sym f))))
    | inr g ↦ others r q q_near (λ h. g h.1) ∙ each r q q_near ∙ ap (λ b. cell_of old w r q || b) (not_same (λ f. g (sym f ∙ e)))
  ]
  | inr apart ↦ others r q q_near (λ h. apart h.0) ∙ each r q q_near ∙ ap (λ b. cell_of old w r q || (b && r == q)) (same_test apart)
]
  where
    not_same : ¬ (r ≡ q) → (ltb r n && r == q) ≡ (ltb r (n + 1) && r == q)
    not_same g = and_right (ltb r n) (r == q) (ne_eqb r q g) ∙ sym (and_right (ltb r (n + 1)) (r == q) (ne_eqb r q g))

    same_test : ¬ (r ≡ n) → ltb r n ≡ ltb r (n + 1)
    same_test apart = elim (cases_lt r n) [
      | inl below ↦ lt-ltb r n below ∙ sym (lt-ltb r (n + 1) (omega arith))
      | inr from ↦ le-ltb r n from ∙ sym (le-ltb r (n + 1) (omega arith))
    ]

pub all_selves :
    (old now : List ℕ) (w n : ℕ)
    → ((r q : ℕ) → q < w * 64 → cell_of now w r q ≡ (cell_of old w r q || (ltb r n && r == q)))
    → (p q : ℕ)
    → p < n
    → q < w * 64
    → cell_of now w p q ≡ (cell_of old w p q || p == q)
all_selves old now w n each p q p_in q_near = each p q q_near ∙ ap (λ b. cell_of old w p q || (b && p == q)) (lt-ltb p n p_in)

-- A closure is a preorder.
pub closed_is_preorder : (n : ℕ) (G R : Relation) → G.size ≡ n → IsClosed G R → IsPreorder n R.pairs
closed_is_preorder n G R size closed = record {
  in_range = λ p q h. let is = (closed.pairs p q).0 h in let left = is.0 in let right = is.1 in (omega arith, omega arith);
  reflexive = λ p lt. (closed.pairs p p).1 (omega arith, omega arith, close_refl (Holds G.pairs) p);
  transitive = λ p q r h k.
      let one = (closed.pairs p q).0 h in
      let two = (closed.pairs q r).0 k in
      (closed.pairs p r).1 (one.0, two.1, close_trans (Holds G.pairs) p q r one.2 two.2);
}

alone_tests : (b here way : Bool) → (b ≡ true → here ≡ way) → here ≡ (here || (way && b))
alone_tests true true true e = refl
alone_tests true true false e = refl
alone_tests true false true e = absurd (false≢true (e refl))
alone_tests true false false e = refl
alone_tests false true true e = refl
alone_tests false true false e = refl
alone_tests false false true e = refl
alone_tests false false false e = refl

-- a place that is related to no other adds nothing
pub alone_adds :
    (table : List ℕ) (w via : ℕ)
    → ((q : ℕ) → q < w * 64 → HasCell table w via q → q ≡ via)
    → (p q : ℕ)
    → q < w * 64
    → cell_of table w p q ≡ (cell_of table w p q || (cell_of table w p via && cell_of table w via q))
alone_adds table w via alone p q q_in =
    alone_tests (cell_of table w via q) (cell_of table w p q) (cell_of table w p via) (λ h. ap (λ x. cell_of table w p x) (alone q q_in h))

-- a place that is related to all that `via` is related to gets nothing from it
pub passed_adds :
    (table : List ℕ) (w p via : ℕ)
    → ((q : ℕ) → q < w * 64 → HasCell table w via q → HasCell table w p q)
    → (q : ℕ)
    → q < w * 64
    → cell_of table w p q ≡ (cell_of table w p q || (cell_of table w p via && cell_of table w via q))
passed_adds table w p via has q near = adds (cell_of table w p q) (cell_of table w p via) (cell_of table w via q) (has q near)
  where
    adds : (here way b : Bool) → (b ≡ true → here ≡ true) → here ≡ (here || (way && b))
    adds true way b more = refl
    adds false true true more = absurd (false≢true (more refl))
    adds false true false more = refl
    adds false false b more = refl

-- The rows before p are passed through `via`, and the others are as they were.
abbrev pub ArePassedUpto : List ℕ → List ℕ → ℕ → ℕ → ℕ → Type 0
ArePassedUpto old now w via p =
    ((r q : ℕ) → r < p → q < w * 64 → cell_of now w r q ≡ (cell_of old w r q || (cell_of old w r via && cell_of old w via q)))
    × ((r q : ℕ) → p ≤ r → q < w * 64 → cell_of now w r q ≡ cell_of old w r q)

-- the row of `via` stays
via_kept : (old now : List ℕ) (w via p : ℕ) → HasCell old w via via → ArePassedUpto old now w via p → (q : ℕ) → q < w * 64 → cell_of now w via q ≡ cell_of old w via q
via_kept old now w via p itself passed q near = elim (cases_lt via p) [
  | inl below ↦ passed.0 via q below near ∙ own_twice (cell_of old w via via) (cell_of old w via q) itself
  | inr from ↦ passed.1 via q from near
]
  where
    own_twice : (own b : Bool) → own ≡ true → (b || (own && b)) ≡ b
    own_twice true true e = refl
    own_twice true false e = refl
    own_twice false b e = absurd (false≢true e)

-- one more row is passed through `via`
pub passed_more :
    (old now new : List ℕ) (w via p : ℕ)
    → HasCell old w via via
    → via < w * 64
    → ArePassedUpto old now w via p
    → ((q : ℕ) → q < w * 64 → cell_of new w p q ≡ (cell_of now w p q || (cell_of now w p via && cell_of now w via q)))
    → ((r q : ℕ) → q < w * 64 → ¬ (r ≡ p) → cell_of new w r q ≡ cell_of now w r q)
    → ArePassedUpto old new w via (p + 1)
passed_more old now new w via p itself via_near passed here others = (
  λ r q r_in near. elim (cases_eq r p) [
    | inl e ↦ subst (λ x. cell_of new w x q ≡ (cell_of old w x q || (cell_of old w x via && cell_of old w via q))) (sym e) (row q near)
    | inr apart ↦ others r q near apart ∙ passed.0 r q (omega arith) near
  ],
  λ r q from near. others r q near (λ e. omega arith) ∙ passed.1 r q (omega arith) near,
)
  where
    row : (q : ℕ) → q < w * 64 → cell_of new w p q ≡ (cell_of old w p q || (cell_of old w p via && cell_of old w via q))
    row q near =
        here q near
        ∙ ap (λ b. b || (cell_of now w p via && cell_of now w via q)) (passed.1 p q (omega arith) near)
        ∙ ap (λ b. cell_of old w p q || (b && cell_of now w via q)) (passed.1 p via (omega arith) via_near)
        ∙ ap (λ b. cell_of old w p q || (cell_of old w p via && b)) (via_kept old now w via p itself passed q near)

-- what is above `via` in a table that is closed by way of earlier places was passed by all that are related to it
pub passed_above :
    (old now : List ℕ) (count w p above via : ℕ)
    → IsTable old count w
    → p < count
    → via < count
    → HasCell old w via via
    → ((m p q : ℕ) → m < via → HasArc old count w p m → HasArc old count w m q → HasArc old count w p q)
    → ((q : ℕ) → q < w * 64 → HasCell old w via q → HasCell old w above q)
    → ArePassedUpto old now w via p
    → above < via
    → HasCell now w p above
    → (q : ℕ)
    → q < w * 64
    → HasCell now w via q
    → HasCell now w p q
passed_above old now count w p above via t p_in via_in itself through is passed lt at q near h =
    let room = t.room in
    let was : HasCell old w via q = sym (via_kept old now w via p itself passed q near) ∙ h in
    let q_in : q < count = t.columns via q via_in near was in
    let p_above : HasCell old w p above = sym (passed.1 p above (omega arith) (omega arith)) ∙ at in
    let arc : HasArc old count w p q = through above p q lt (p_in, omega arith, p_above) (omega arith, q_in, is q near was) in
    passed.1 p q (omega arith) near ∙ arc.2

-- a cell whose word is zero
pub clear_word : (table : List ℕ) (w p q : ℕ) → get_or table (p * w + q / 64) 0 ≡ 0 → HasCell table w p q → ⊥
clear_word table w p q e h =
    false≢true (sym (ap (λ n. n == 1) (bit_at-zero (q % 64))) ∙ sym (ap (λ n. bit_at n (q % 64) == 1) e) ∙ sym (cell_at table w p q) ∙ h)
