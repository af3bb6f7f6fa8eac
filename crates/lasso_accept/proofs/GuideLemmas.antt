-- The guide of a word: how its rows are written, and what they say of runs.
use Rattle.std.proofs.Common.{◌-◌, ◌≡◌, ◌↔◌, ◌⊎◌, ℕ, zero, suc, ◌+◌, ◌*◌, ◌/◌, ◌%◌, ◌<◌, ◌≤◌, inl, inr, Bool, true, false, ◌||◌, cond, List, [], ◌∷◌, length, get_or, drop, refl, sym, ap, ◌∙◌, subst, arith, length-drop}
use Rattle.std.proofs.lemmas.Bool.{cases_eq, cases_lt, false≢true}
use Rattle.std.proofs.lemmas.List.{drop_more, drop_all}
use Rattle.std.proofs.lemmas.Nat.Bits.{bit_at-zero}
use Rattle.auto_core.specs.Automaton.{Automaton, IsAutomaton, Moves, IsIncoming, is_accepting, trans_at}
use Rattle.auto_core.specs.declared.parts.Trans.{Trans}
use Rattle.auto_core.specs.Run.{Run}
use Rattle.auto_core.specs.Rows.{HasBit, HasCell, cell_of, bit_of}
use Rattle.auto_core.proofs.MoveLemmas.{incoming_moves, moves_in_incoming, move_in_range}
use Rattle.lasso_accept.specs.Plane.{chosen}
use Rattle.lasso_accept.specs.Guide.{IsGuide, LeadsToTarget}

-- The sources of the first transitions with the label, among those into a state.
pub record HasMarked (A : Automaton) (label width at upto : ℕ) (numbers old new : List ℕ) : Type 0 where
  pub here :
      (p : ℕ)
      → p < width * 64
      → HasCell new width at p
      ↔ (HasCell old width at p
      ⊎ ((k : ℕ) × (k < upto) × ((trans_at A (get_or numbers k 0)).source ≡ p) × ((trans_at A (get_or numbers k 0)).label ≡ label)))
  pub others : (r p : ℕ) → p < width * 64 → ¬ (r ≡ at) → cell_of new width r p ≡ cell_of old width r p

pub marked_none : (A : Automaton) (label width at : ℕ) (numbers old : List ℕ) → HasMarked A label width at 0 numbers old old
marked_none A label width at numbers old =
    record {
      here = λ p p_in. (λ h. inl h, λ h. elim h [ inl was ↦ was | inr (k, below, source, same) ↦ absurd (omega arith) ]);
      others = λ r p p_in n. refl;
    }

pub marked_passed :
    (A : Automaton) (label width at k : ℕ) (numbers old now : List ℕ)
    → HasMarked A label width at k numbers old now
    → ¬ ((trans_at A (get_or numbers k 0)).label ≡ label)
    → HasMarked A label width at (k + 1) numbers old now
marked_passed A label width at k numbers old now m other =
    record {
      here = λ p p_in. (
        λ h.
            elim ((m.here p p_in).0 h) [
              | inl was ↦ inl was
              | inr (j, below, source, same) ↦ inr (j, omega arith, source, same)
            ],
        λ h.
            (m.here p p_in).1 (elim h [
              | inl was ↦ inl was
              | inr (j, below, source, same) ↦
                  elim (cases_eq j k) [
                    | inl e ↦
                        let P : ℕ → Type 0 = λ i. (trans_at A (get_or numbers i 0)).label ≡ label in
                        absurd (other (subst P e same))
                    | inr n ↦ inr (j, omega arith, source, same)
                  ]
            ]),
      );
      others = m.others;
    }

pub marked_more :
    (A : Automaton) (label width at k : ℕ) (numbers old now new : List ℕ)
    → HasMarked A label width at k numbers old now
    → (trans_at A (get_or numbers k 0)).label ≡ label
    → cell_of new width at (trans_at A (get_or numbers k 0)).source ≡ true
    → ((r s : ℕ) → s < width * 64 → ¬ ((r ≡ at) × (s ≡ (trans_at A (get_or numbers k 0)).source)) → cell_of new width r s ≡ cell_of now width r s)
    → HasMarked A label width at (k + 1) numbers old new
marked_more A label width at k numbers old now new m same set others =
    let source : ℕ = (trans_at A (get_or numbers k 0)).source in
    record {
      here = λ p p_in.
          elim (cases_eq p source) [
            | inl e ↦ (
              λ h. inr (k, omega arith, sym e, same),
              λ h. let P : ℕ → Type 0 = λ s. HasCell new width at s in subst P (sym e) set,
            )
            | inr n ↦
                let kept : cell_of new width at p ≡ cell_of now width at p = others at p p_in (λ both. n both.1) in (
                  λ h.
                      elim ((m.here p p_in).0 (sym kept ∙ h)) [
                        | inl was ↦ inl was
                        | inr (j, below, is, also) ↦ inr (j, omega arith, is, also)
                      ],
                  λ h.
                      kept
                      ∙ (m.here p p_in).1 (elim h [
                        | inl was ↦ inl was
                        | inr (j, below, is, also) ↦
                            elim (cases_eq j k) [
                              | inl e ↦
                                  let P : ℕ → Type 0 = λ i. (trans_at A (get_or numbers i 0)).source ≡ p in
                                  absurd (n (sym (subst P e is)))
                              | inr d ↦ inr (j, omega arith, is, also)
                            ]
                      ]),
                )
          ];
      others = λ r p p_in n. others r p p_in (λ both. n both.0) ∙ m.others r p p_in n;
    }

pub marked_all :
    (A : Automaton) (label state width at : ℕ) (numbers old new : List ℕ)
    → IsIncoming A state numbers
    → HasMarked A label width at (length numbers) numbers old new
    → (p : ℕ)
    → p < width * 64
    → HasCell new width at p ↔ (HasCell old width at p ⊎ Moves A p label state)
marked_all A label state width at numbers old new into m p p_in = (
  λ h.
      elim ((m.here p p_in).0 h) [
        | inl was ↦ inl was
        | inr (k, below, source, same) ↦
            let t = trans_at A (get_or numbers k 0) in
            let P : ℕ → Type 0 = λ x. Moves A x t.label state in
            let Q : ℕ → Type 0 = λ x. Moves A p x state in
            inr (subst Q same (subst P source (incoming_moves A state numbers into k below)))
      ],
  λ h.
      (m.here p p_in).1 (elim h [
        | inl was ↦ inl was
        | inr move ↦
            let (k, below, is) = moves_in_incoming A state numbers into p label move in
            inr (k, below, ap (λ (u : Trans). u.source) is, ap (λ (u : Trans). u.label) is)
      ]),
)

-- The states from which a move leads to one of a span.
pub record HasSpan (A : Automaton) (label width at begin upto : ℕ) (marked plain old new : List ℕ) : Type 0 where
  pub here :
      (p : ℕ)
      → p < width * 64
      → HasCell new width at p
      ↔ (HasCell old width at p
      ⊎ ((r : ℕ) × (begin ≤ r) × (r < upto) × Moves A p label r × HasBit (chosen A marked plain r) r))
  pub others : (r p : ℕ) → p < width * 64 → ¬ (r ≡ at) → cell_of new width r p ≡ cell_of old width r p

pub span_none : (A : Automaton) (label width at begin : ℕ) (marked plain old : List ℕ) → HasSpan A label width at begin begin marked plain old old
span_none A label width at begin marked plain old =
    record {
      here = λ p p_in. (λ h. inl h, λ h. elim h [ inl was ↦ was | inr (r, from, below, move, bit) ↦ absurd (omega arith) ]);
      others = λ r p p_in n. refl;
    }

pub span_passed :
    (A : Automaton) (label width at begin state : ℕ) (marked plain old now : List ℕ)
    → HasSpan A label width at begin state marked plain old now
    → bit_of (chosen A marked plain state) state ≡ false
    → HasSpan A label width at begin (state + 1) marked plain old now
span_passed A label width at begin state marked plain old now s none =
    record {
      here = λ p p_in. (
        λ h.
            elim ((s.here p p_in).0 h) [
              | inl was ↦ inl was
              | inr (r, from, below, move, bit) ↦ inr (r, from, omega arith, move, bit)
            ],
        λ h.
            (s.here p p_in).1 (elim h [
              | inl was ↦ inl was
              | inr (r, from, below, move, bit) ↦
                  elim (cases_eq r state) [
                    | inl e ↦
                        let P : ℕ → Type 0 = λ x. HasBit (chosen A marked plain x) x in
                        absurd (false≢true (sym none ∙ subst P e bit))
                    | inr n ↦ inr (r, from, omega arith, move, bit)
                  ]
            ]),
      );
      others = s.others;
    }

pub span_more :
    (A : Automaton) (label width at begin state : ℕ) (marked plain old now new : List ℕ)
    → begin ≤ state
    → HasSpan A label width at begin state marked plain old now
    → HasBit (chosen A marked plain state) state
    → ((p : ℕ) → p < width * 64 → HasCell new width at p ↔ (HasCell now width at p ⊎ Moves A p label state))
    → ((r p : ℕ) → p < width * 64 → ¬ (r ≡ at) → cell_of new width r p ≡ cell_of now width r p)
    → HasSpan A label width at begin (state + 1) marked plain old new
span_more A label width at begin state marked plain old now new from_begin s bit here others =
    record {
      here = λ p p_in. (
        λ h.
            elim ((here p p_in).0 h) [
              | inl before ↦
                  elim ((s.here p p_in).0 before) [
                    | inl was ↦ inl was
                    | inr (r, from, below, move, b) ↦ inr (r, from, omega arith, move, b)
                  ]
              | inr move ↦ inr (state, from_begin, omega arith, move, bit)
            ],
        λ h.
            (here p p_in).1 (elim h [
              | inl was ↦ inl ((s.here p p_in).1 (inl was))
              | inr (r, from, below, move, b) ↦
                  elim (cases_eq r state) [
                    | inl e ↦ let P : ℕ → Type 0 = λ x. Moves A p label x in inr (subst P e move)
                    | inr n ↦ inl ((s.here p p_in).1 (inr (r, from, omega arith, move, b)))
                  ]
            ]),
      );
      others = λ r p p_in n. others r p p_in n ∙ s.others r p p_in n;
    }

-- all states
pub span_all :
    (A : Automaton)
    → IsAutomaton A
    → (label width at upto : ℕ) (marked plain old new : List ℕ)
    → A.states ≤ upto
    → HasSpan A label width at 0 upto marked plain old new
    → (p : ℕ)
    → p < width * 64
    → HasCell new width at p ↔ (HasCell old width at p ⊎ ((r : ℕ) × Moves A p label r × HasBit (chosen A marked plain r) r))
span_all A valid label width at upto marked plain old new room s p p_in = (
  λ h. elim ((s.here p p_in).0 h) [ inl was ↦ inl was | inr (r, from, below, move, bit) ↦ inr (r, move, bit) ],
  λ h.
      (s.here p p_in).1 (elim h [
        | inl was ↦ inl was
        | inr (r, move, bit) ↦ let r_in = (move_in_range A valid p label r move).1 in inr (r, omega arith, omega arith, move, bit)
      ]),
)

-- The rows from `at` on are written, those before are clear, and the last one stands.
pub record IsFilled (A : Automaton) (w : List ℕ) (width at : ℕ) (any_first flagged_first any flagged : List ℕ) : Type 0 where
  pub any_steps : (i p : ℕ) → at ≤ i → i < length w → p < A.states → HasCell any width i p ↔ ((r : ℕ) × Moves A p (get_or w i 0) r × HasCell any width (i + 1) r)
  pub flagged_steps :
      (i p : ℕ)
      → at ≤ i
      → i < length w
      → p < A.states
      → HasCell flagged width i p ↔ ((r : ℕ) × Moves A p (get_or w i 0) r × HasCell (chosen A any flagged r) width (i + 1) r)
  pub any_clear : (i p : ℕ) → i < at → p < width * 64 → cell_of any width i p ≡ false
  pub flagged_clear : (i p : ℕ) → i < at → p < width * 64 → cell_of flagged width i p ≡ false
  pub any_last : (p : ℕ) → p < width * 64 → cell_of any width (length w) p ≡ cell_of any_first width (length w) p
  pub flagged_last : (p : ℕ) → p < width * 64 → cell_of flagged width (length w) p ≡ cell_of flagged_first width (length w) p

pub filled_none :
    (A : Automaton) (w : List ℕ) (width : ℕ) (any flagged : List ℕ)
    → ((i p : ℕ) → i < length w → p < width * 64 → cell_of any width i p ≡ false)
    → ((i p : ℕ) → i < length w → p < width * 64 → cell_of flagged width i p ≡ false)
    → IsFilled A w width (length w) any flagged any flagged
filled_none A w width any flagged any_clear flagged_clear =
    record {
      any_steps = λ i p from below p_in. absurd (omega arith);
      flagged_steps = λ i p from below p_in. absurd (omega arith);
      any_clear = any_clear;
      flagged_clear = flagged_clear;
      any_last = λ p p_in. refl;
      flagged_last = λ p p_in. refl;
    }

-- bits of rows as cells of tables, where one of two is taken
cells_of_cond :
    (b : Bool) (marked plain any flagged : List ℕ) (width k q : ℕ)
    → bit_of marked q ≡ cell_of any width k q
    → bit_of plain q ≡ cell_of flagged width k q
    → bit_of (cond b marked plain) q ≡ cell_of (cond b any flagged) width k q
cells_of_cond true marked plain any flagged width k q e f = e
cells_of_cond false marked plain any flagged width k q e f = f

cond_cells :
    (b : Bool) (any flagged any' flagged' : List ℕ) (width k q : ℕ)
    → cell_of any' width k q ≡ cell_of any width k q
    → cell_of flagged' width k q ≡ cell_of flagged width k q
    → cell_of (cond b any' flagged') width k q ≡ cell_of (cond b any flagged) width k q
cond_cells true any flagged any' flagged' width k q e f = e
cond_cells false any flagged any' flagged' width k q e f = f

cond_same : (b : Bool) (xs : List ℕ) → cond b xs xs ≡ xs
cond_same true xs = refl
cond_same false xs = refl

pub filled_more :
    (A : Automaton)
    → IsAutomaton A
    → (w : List ℕ) (width at : ℕ) (any_first flagged_first any flagged any' flagged' marked plain : List ℕ)
    → A.states ≤ width * 64
    → at < length w
    → IsFilled A w width (at + 1) any_first flagged_first any flagged
    → ((q : ℕ) → q < width * 64 → bit_of marked q ≡ cell_of any width (at + 1) q)
    → ((q : ℕ) → q < width * 64 → bit_of plain q ≡ cell_of flagged width (at + 1) q)
    → ((p : ℕ)
    → p < width * 64
    → HasCell any' width at p ↔ (HasCell any width at p ⊎ ((r : ℕ) × Moves A p (get_or w at 0) r × HasBit (chosen A marked marked r) r)))
    → ((r p : ℕ) → p < width * 64 → ¬ (r ≡ at) → cell_of any' width r p ≡ cell_of any width r p)
    → ((p : ℕ)
    → p < width * 64
    → HasCell flagged' width at p ↔ (HasCell flagged width at p ⊎ ((r : ℕ) × Moves A p (get_or w at 0) r × HasBit (chosen A marked plain r) r)))
    → ((r p : ℕ) → p < width * 64 → ¬ (r ≡ at) → cell_of flagged' width r p ≡ cell_of flagged width r p)
    → IsFilled A w width at any_first flagged_first any' flagged'
filled_more A valid w width at any_first flagged_first any flagged any' flagged' marked plain room at_in f marked_is plain_is any_here any_others flagged_here flagged_others =
    let near : (p a r : ℕ) → Moves A p a r → r < width * 64 = λ p a r m. let r_in = (move_in_range A valid p a r m).1 in omega arith in
    let any_same : (i p : ℕ) → ¬ (i ≡ at) → p < width * 64 → cell_of any' width i p ≡ cell_of any width i p = λ i p n p_in. any_others i p p_in n in
    let flagged_same : (i p : ℕ) → ¬ (i ≡ at) → p < width * 64 → cell_of flagged' width i p ≡ cell_of flagged width i p = λ i p n p_in. flagged_others i p p_in n in
    let next_any : (r : ℕ) → r < width * 64 → cell_of any' width (at + 1) r ≡ bit_of marked r = λ r r_in. any_same (at + 1) r (λ e. omega arith) r_in ∙ sym (marked_is r r_in) in
    let next_flagged : (r : ℕ) → r < width * 64 → cell_of flagged' width (at + 1) r ≡ bit_of plain r = λ r r_in. flagged_same (at + 1) r (λ e. omega arith) r_in ∙ sym (plain_is r r_in) in
    let any_at : (p : ℕ) → p < A.states → HasCell any' width at p ↔ ((r : ℕ) × Moves A p (get_or w at 0) r × HasCell any' width (at + 1) r) =
    λ p p_in. (
      λ h.
          elim ((any_here p (omega arith)).0 h) [
            | inl was ↦ absurd (false≢true (sym (f.any_clear at p (omega arith) (omega arith)) ∙ was))
            | inr (r, m, bit) ↦
                let P : List ℕ → Type 0 = λ xs. HasBit xs r in
                (r, m, next_any r (near p (get_or w at 0) r m) ∙ subst P (cond_same (is_accepting A r) marked) bit)
          ],
      λ (r, m, cell).
          let P : List ℕ → Type 0 = λ xs. HasBit xs r in
          (any_here p (omega arith)).1 (inr (r, m, subst P (sym (cond_same (is_accepting A r) marked)) (sym (next_any r (near p (get_or w at 0) r m)) ∙ cell))),
    ) in
    let flagged_at : (p : ℕ) → p < A.states → HasCell flagged' width at p ↔ ((r : ℕ) × Moves A p (get_or w at 0) r × HasCell (chosen A any' flagged' r) width (at + 1) r) =
    λ p p_in. (
      λ h.
          elim ((flagged_here p (omega arith)).0 h) [
            | inl was ↦ absurd (false≢true (sym (f.flagged_clear at p (omega arith) (omega arith)) ∙ was))
            | inr (r, m, bit) ↦
                let r_in = near p (get_or w at 0) r m in
                (r, m, sym (cells_of_cond (is_accepting A r) marked plain any' flagged' width (at + 1) r (sym (next_any r r_in)) (sym (next_flagged r r_in))) ∙ bit)
          ],
      λ (r, m, cell).
          let r_in = near p (get_or w at 0) r m in
          (flagged_here p (omega arith)).1 (inr (
            r,
            m,
            cells_of_cond (is_accepting A r) marked plain any' flagged' width (at + 1) r (sym (next_any r r_in)) (sym (next_flagged r r_in)) ∙ cell,
          )),
    ) in
    record {
      any_steps = λ i p from below p_in.
          elim (cases_eq i at) [
            | inl e ↦
                let P : ℕ → Type 0 = λ k. HasCell any' width k p ↔ ((r : ℕ) × Moves A p (get_or w k 0) r × HasCell any' width (k + 1) r) in
                subst P (sym e) (any_at p p_in)
            | inr n ↦
                let old = f.any_steps i p (omega arith) below p_in in (
                  λ h.
                      let (r, m, cell) = old.0 (sym (any_same i p n (omega arith)) ∙ h) in
                      (r, m, any_same (i + 1) r (λ e. omega arith) (near p (get_or w i 0) r m) ∙ cell),
                  λ (r, m, cell).
                      any_same i p n (omega arith) ∙ old.1 (r, m, sym (any_same (i + 1) r (λ e. omega arith) (near p (get_or w i 0) r m)) ∙ cell),
                )
          ];
      flagged_steps = λ i p from below p_in.
          elim (cases_eq i at) [
            | inl e ↦
                let P : ℕ → Type 0 = λ k. HasCell flagged' width k p ↔ ((r : ℕ) × Moves A p (get_or w k 0) r × HasCell (chosen A any' flagged' r) width (k + 1) r) in
                subst P (sym e) (flagged_at p p_in)
            | inr n ↦
                let old = f.flagged_steps i p (omega arith) below p_in in
                let later : (r : ℕ) → Moves A p (get_or w i 0) r → cell_of (chosen A any' flagged' r) width (i + 1) r ≡ cell_of (chosen A any flagged r) width (i + 1) r =
                λ r m.
                let r_in = near p (get_or w i 0) r m in
                cond_cells (is_accepting A r) any flagged any' flagged' width (i + 1) r (any_same (i + 1) r (λ e. omega arith) r_in) (flagged_same (i + 1) r (λ e. omega arith) r_in) in (
                  λ h. let (r, m, cell) = old.0 (sym (flagged_same i p n (omega arith)) ∙ h) in (r, m, later r m ∙ cell),
                  λ (r, m, cell). flagged_same i p n (omega arith) ∙ old.1 (r, m, sym (later r m) ∙ cell),
                )
          ];
      any_clear = λ i p below p_in. any_same i p (λ e. omega arith) p_in ∙ f.any_clear i p (omega arith) p_in;
      flagged_clear = λ i p below p_in. flagged_same i p (λ e. omega arith) p_in ∙ f.flagged_clear i p (omega arith) p_in;
      any_last = λ p p_in. any_same (length w) p (λ e. omega arith) p_in ∙ f.any_last p p_in;
      flagged_last = λ p p_in. flagged_same (length w) p (λ e. omega arith) p_in ∙ f.flagged_last p p_in;
    }

pub filled_all :
    (A : Automaton) (w target : List ℕ) (width : ℕ) (any_first flagged_first any flagged : List ℕ)
    → A.states ≤ width * 64
    → length any ≡ (length w + 1) * width
    → length flagged ≡ (length w + 1) * width
    → IsFilled A w width 0 any_first flagged_first any flagged
    → ((p : ℕ) → p < A.states → HasCell flagged_first width (length w) p → ⊥)
    → ((p : ℕ) → p < A.states → HasCell any_first width (length w) p ↔ HasBit target p)
    → IsGuide A w target width any flagged
filled_all A w target width any_first flagged_first any flagged room any_len flagged_len f none ends =
    record {
      any_len = any_len;
      flagged_len = flagged_len;
      any_steps = λ i p below p_in. f.any_steps i p (omega arith) below p_in;
      flagged_steps = λ i p below p_in. f.flagged_steps i p (omega arith) below p_in;
      any_ends = λ p p_in.
          let same : cell_of any width (length w) p ≡ cell_of any_first width (length w) p = f.any_last p (omega arith) in
          (λ h. (ends p p_in).0 (sym same ∙ h), λ h. same ∙ (ends p p_in).1 h);
      flagged_ends = λ p p_in h. none p p_in (sym (f.flagged_last p (omega arith)) ∙ h);
    }

-- What the guide says of runs.
module _ (A : Automaton) (valid : IsAutomaton A) (w target : List ℕ) (width : ℕ) (any flagged : List ℕ) (g : IsGuide A w target width any flagged) where
  along : (x : List ℕ) (i p q : ℕ) (flag : Bool) → x ≡ drop i w → i ≤ length w → p < A.states → Run A p x q flag → HasBit target q → HasCell any width i p × (flag ≡ true → HasCell flagged width i p)
  along [] i p q flag is i_in p_in (e, f) lands =
      let over : i ≡ length w = omega (arith, ap length is, length-drop i w) in
      let P : ℕ → Type 0 = λ k. HasCell any width k p in
      let Q : ℕ → Type 0 = λ s. HasBit target s in
      (subst P (sym over) ((g.any_ends p p_in).1 (subst Q (sym e) lands)), λ t. absurd (false≢true (sym f ∙ t)))
  along (a ∷ x) i p q flag is i_in p_in (r, later, m, run, e) lands =
      elim (cases_lt i (length w)) [
        | inl below ↦
            let split : a ∷ x ≡ get_or w i 0 ∷ drop (i + 1) w = is ∙ drop_more w i 0 below in
            let letter : a ≡ get_or w i 0 = cc in
            let rest : x ≡ drop (i + 1) w = cc in
            let M : ℕ → Type 0 = λ b. Moves A p b r in
            let move : Moves A p (get_or w i 0) r = subst M letter m in
            let r_in = (move_in_range A valid p a r m).1 in
            let further = along x (i + 1) r q later rest (omega arith) r_in run lands in (
              (g.any_steps i p below p_in).1 (r, move, further.0),
              λ t. (g.flagged_steps i p below p_in).1 (r, move, one_of (is_accepting A r) later r (i + 1) (sym e ∙ t) further.0 further.1),
            )
        | inr over ↦ let none : a ∷ x ≡ [] = is ∙ drop_all i w over in absurd (cc)
      ]
    where
      one_of : (b later : Bool) (r k : ℕ) → (b || later) ≡ true → HasCell any width k r → (later ≡ true → HasCell flagged width k r) → HasCell (cond b any flagged) width k r
      one_of true later r k h here there = here
      one_of false later r k h here there = there h

  shown : (n i p : ℕ) → i + n ≡ length w → p < A.states → HasCell any width i p → (q : ℕ) × (flag : Bool) × Run A p (drop i w) q flag × HasBit target q
  shown zero i p is p_in h =
      let over : i ≡ length w = omega arith in
      let P : ℕ → Type 0 = λ k. HasCell any width k p in
      let Q : List ℕ → Type 0 = λ x. Run A p x p false in
      (p, false, subst Q (sym (drop_all i w (omega arith))) (refl, refl), (g.any_ends p p_in).0 (subst P over h))
  shown (suc n) i p is p_in h =
      let below : i < length w = omega arith in
      let (r, m, there) = (g.any_steps i p below p_in).0 h in
      let (q, flag, run, lands) = shown n (i + 1) r (omega arith) (move_in_range A valid p (get_or w i 0) r m).1 there in
      let Q : List ℕ → Type 0 = λ x. Run A p x q (is_accepting A r || flag) in
      (q, is_accepting A r || flag, subst Q (sym (drop_more w i 0 below)) (r, flag, m, run, refl), lands)

pub guide_along :
    (A : Automaton)
    → IsAutomaton A
    → (w target : List ℕ) (width : ℕ) (any flagged : List ℕ)
    → IsGuide A w target width any flagged
    → (p q : ℕ) (flag : Bool)
    → p < A.states
    → Run A p w q flag
    → HasBit target q
    → HasCell any width 0 p × (flag ≡ true → HasCell flagged width 0 p)
guide_along A valid w target width any flagged g p q flag p_in run lands = along A valid w target width any flagged g w 0 p q flag refl (omega arith) p_in run lands

pub guide_shows :
    (A : Automaton)
    → IsAutomaton A
    → (w target : List ℕ) (width : ℕ) (any flagged : List ℕ)
    → IsGuide A w target width any flagged
    → (p : ℕ)
    → p < A.states
    → HasCell any width 0 p
    → (q : ℕ) × (flag : Bool) × Run A p w q flag × HasBit target q
guide_shows A valid w target width any flagged g p p_in h = shown A valid w target width any flagged g (length w) 0 p (omega arith) p_in h

-- Each row of a guide has the states from which the rest of the word leads into the target.
pub guide_rests :
    (A : Automaton)
    → IsAutomaton A
    → (w target : List ℕ) (width : ℕ) (any flagged : List ℕ)
    → IsGuide A w target width any flagged
    → (i p : ℕ)
    → i ≤ length w
    → p < A.states
    → HasCell any width i p ↔ ((q : ℕ) × (flag : Bool) × Run A p (drop i w) q flag × HasBit target q)
guide_rests A valid w target width any flagged g i p i_in p_in = (
  λ h. shown A valid w target width any flagged g (length w - i) i p (omega arith) p_in h,
  λ (q, flag, run, lands). (along A valid w target width any flagged g (drop i w) i p q flag refl i_in p_in run lands).0,
)

-- Spans joined, and the span of a word of the rows.
pub span_join :
    (A : Automaton) (label width at begin middle end : ℕ) (marked plain old now new : List ℕ)
    → begin ≤ middle
    → middle ≤ end
    → HasSpan A label width at begin middle marked plain old now
    → HasSpan A label width at middle end marked plain now new
    → HasSpan A label width at begin end marked plain old new
span_join A label width at begin middle end marked plain old now new first second s t =
    record {
      here = λ p p_in. (
        λ h.
            elim ((t.here p p_in).0 h) [
              | inl before ↦
                  elim ((s.here p p_in).0 before) [
                    | inl was ↦ inl was
                    | inr (r, from, below, move, bit) ↦ inr (r, from, omega arith, move, bit)
                  ]
              | inr (r, from, below, move, bit) ↦ inr (r, omega arith, below, move, bit)
            ],
        λ h.
            (t.here p p_in).1 (elim h [
              | inl was ↦ inl ((s.here p p_in).1 (inl was))
              | inr (r, from, below, move, bit) ↦
                  elim (cases_lt r middle) [
                    | inl near ↦ inl ((s.here p p_in).1 (inr (r, from, near, move, bit)))
                    | inr far ↦ inr (r, far, below, move, bit)
                  ]
            ]),
      );
      others = λ r p p_in n. t.others r p p_in n ∙ s.others r p p_in n;
    }

-- only states count
pub span_of_states :
    (A : Automaton)
    → IsAutomaton A
    → (label width at begin end from upto : ℕ) (marked plain old new : List ℕ)
    → ((r : ℕ) → r < A.states → begin ≤ r → r < end → (from ≤ r) × (r < upto))
    → ((r : ℕ) → r < A.states → from ≤ r → r < upto → (begin ≤ r) × (r < end))
    → HasSpan A label width at begin end marked plain old new
    → HasSpan A label width at from upto marked plain old new
span_of_states A valid label width at begin end from upto marked plain old new there back s =
    record {
      here = λ p p_in. (
        λ h.
            elim ((s.here p p_in).0 h) [
              | inl was ↦ inl was
              | inr (r, r_from, r_below, move, bit) ↦
                  let both = there r (move_in_range A valid p label r move).1 r_from r_below in
                  inr (r, both.0, both.1, move, bit)
            ],
        λ h.
            (s.here p p_in).1 (elim h [
              | inl was ↦ inl was
              | inr (r, r_from, r_below, move, bit) ↦
                  let both = back r (move_in_range A valid p label r move).1 r_from r_below in
                  inr (r, both.0, both.1, move, bit)
            ]),
      );
      others = s.others;
    }

clear_word : (row : List ℕ) (word r : ℕ) → get_or row word 0 ≡ 0 → word * 64 ≤ r → r < (word + 1) * 64 → bit_of row r ≡ false
clear_word row word r e from below =
    let at : r / 64 ≡ word = omega arith in
    let none : get_or row (r / 64) 0 ≡ 0 = rw at e in
    rw (none, bit_at-zero (r % 64)) refl

pub span_clear :
    (A : Automaton) (label width at word : ℕ) (marked plain old : List ℕ)
    → get_or marked word 0 ≡ 0
    → get_or plain word 0 ≡ 0
    → HasSpan A label width at (word * 64) ((word + 1) * 64) marked plain old old
span_clear A label width at word marked plain old marked_clear plain_clear =
    record {
      here = λ p p_in. (
        λ h. inl h,
        λ h.
            elim h [
              | inl was ↦ was
              | inr (r, from, below, move, bit) ↦ absurd (neither (is_accepting A r) r from below bit)
            ],
      );
      others = λ r p p_in n. refl;
    }
  where
    neither : (b : Bool) (r : ℕ) → word * 64 ≤ r → r < (word + 1) * 64 → HasBit (cond b marked plain) r → ⊥
    neither true r from below bit = false≢true (sym (clear_word marked word r marked_clear from below) ∙ bit)
    neither false r from below bit = false≢true (sym (clear_word plain word r plain_clear from below) ∙ bit)

pub guide_leads :
    (A : Automaton)
    → IsAutomaton A
    → (w target : List ℕ) (width : ℕ) (any flagged : List ℕ)
    → IsGuide A w target width any flagged
    → (p : ℕ) (asked : Bool)
    → p < A.states
    → LeadsToTarget A p w target asked
    → HasCell (cond asked flagged any) width 0 p
guide_leads A valid w target width any flagged g p true p_in l = (guide_along A valid w target width any flagged g p l.end l.flag p_in l.run l.lands).1 (l.passes refl)
guide_leads A valid w target width any flagged g p false p_in l = (guide_along A valid w target width any flagged g p l.end l.flag p_in l.run l.lands).0

-- Where the choice is between a row and itself, that row is chosen.
chosen_itself : (A : Automaton) (row : List ℕ) (r : ℕ) → chosen A row row r ≡ row
chosen_itself A row r = go (is_accepting A r) where
  go : (b : Bool) → cond b row row ≡ row
  go true = refl
  go false = refl

-- A row written back from the row at a place of a table.
pub row_back :
    (A : Automaton)
    → IsAutomaton A
    → (label width at : ℕ) (table row clear out : List ℕ)
    → A.states ≤ width * 64
    → ((q : ℕ) → q < width * 64 → bit_of row q ≡ cell_of table width at q)
    → ((i : ℕ) → bit_of clear i ≡ false)
    → ((p : ℕ) → p < width * 64 → HasCell out width 0 p ↔ (HasCell clear width 0 p ⊎ ((r : ℕ) × Moves A p label r × HasBit (chosen A row row r) r)))
    → (p : ℕ)
    → p < width * 64
    → HasCell out width 0 p ↔ ((r : ℕ) × Moves A p label r × HasCell table width at r)
row_back A valid label width at table row clear out room inside none here p p_in = (
  λ h. elim ((here p p_in).0 h) [
    | inl was ↦ absurd (false≢true (sym (none (0 * width * 64 + p)) ∙ was))
    | inr (r, move, bit) ↦
        let r_in = (move_in_range A valid p label r move).1 in
        (r, move, sym (inside r (omega arith)) ∙ subst (λ x. HasBit x r) (chosen_itself A row r) bit)
  ],
  λ (r, move, cell).
      let r_in = (move_in_range A valid p label r move).1 in
      (here p p_in).1 (inr (r, move, subst (λ x. HasBit x r) (sym (chosen_itself A row r)) (inside r (omega arith) ∙ cell))),
)
