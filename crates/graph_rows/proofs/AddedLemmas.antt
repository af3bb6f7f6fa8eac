-- Columns added to a row, one addition after another, and row after row.
use Rattle.std.proofs.Common.{◌≡◌, ℕ, ◌+◌, ◌*◌, ◌<◌, ◌≤◌, ◌↔◌, ◌⊎◌, ◌||◌, inl, inr, false, List, refl, sym, ◌∙◌, subst, arith}
use Rattle.std.proofs.lemmas.Bool.{cases_eq, cases_lt, false≢true, or_cases, or_left, or_right}
use Rattle.auto_core.specs.Automaton.{Automaton, Moves, IsSuccessors, trans_at}
use Rattle.auto_core.proofs.MoveLemmas.{successor_moves, moves_in_successors}
use Rattle.auto_core.specs.Rows.{HasBit, bit_of, cell_of}
use Rattle.graph_rows.specs.Added.{HasAdded}

pub added_none : (width row : ℕ) (P : ℕ → Type 0) (table : List ℕ) → ((q : ℕ) → P q → ⊥) → HasAdded width row P table table
added_none width row P table none =
    record { here = λ q q_in. (λ h. inl h, λ h. elim h [ inl was ↦ was | inr new ↦ absurd (none q new) ]); others = λ p q q_in n. refl }

-- one addition after another
pub added_then :
    (width row : ℕ) (P Q R : ℕ → Type 0) (old now new : List ℕ)
    → ((q : ℕ) → q < width * 64 → R q ↔ (P q ⊎ Q q))
    → HasAdded width row P old now
    → HasAdded width row Q now new
    → HasAdded width row R old new
added_then width row P Q R old now new is first second =
    record {
      here = λ q q_in. (
        λ h.
            elim ((second.here q q_in).0 h) [
              | inl before ↦
                  elim ((first.here q q_in).0 before) [
                    | inl was ↦ inl was
                    | inr one ↦ inr ((is q q_in).1 (inl one))
                  ]
              | inr two ↦ inr ((is q q_in).1 (inr two))
            ],
        λ h.
            elim h [
              | inl was ↦ (second.here q q_in).1 (inl ((first.here q q_in).1 (inl was)))
              | inr added ↦
                  elim ((is q q_in).0 added) [
                    | inl one ↦ (second.here q q_in).1 (inl ((first.here q q_in).1 (inr one)))
                    | inr two ↦ (second.here q q_in).1 (inr two)
                  ]
            ],
      );
      others = λ p q q_in n. second.others p q q_in n ∙ first.others p q q_in n;
    }

-- the same columns in other words
pub added_as :
    (width row : ℕ) (P Q : ℕ → Type 0) (old new : List ℕ)
    → ((q : ℕ) → q < width * 64 → P q ↔ Q q)
    → HasAdded width row P old new
    → HasAdded width row Q old new
added_as width row P Q old new is added =
    record {
      here = λ q q_in. (
        λ h. elim ((added.here q q_in).0 h) [ inl was ↦ inl was | inr one ↦ inr ((is q q_in).0 one) ],
        λ h. elim h [ inl was ↦ (added.here q q_in).1 (inl was) | inr one ↦ (added.here q q_in).1 (inr ((is q q_in).1 one)) ],
      );
      others = added.others;
    }

-- The columns that the moves with the numbers from `begin` up to `upto` lead to, each under a condition.
abbrev pub TargetOf : Automaton → ℕ → ℕ → (ℕ → Type 0) → ℕ → Type 0
TargetOf A begin upto C q = ((t : ℕ) × (begin ≤ t) × (t < upto) × ((trans_at A t).target ≡ q)) × C q

pub target_none : (A : Automaton) (begin : ℕ) (C : ℕ → Type 0) (q : ℕ) → TargetOf A begin begin C q → ⊥
target_none A begin C q ((t, from, below, at), c) = absurd (omega arith)

pub target_more :
    (A : Automaton) (begin t : ℕ) (C D : ℕ → Type 0)
    → begin ≤ t
    → ((q : ℕ) → D q ↔ ((q ≡ (trans_at A t).target) × C q))
    → (q : ℕ)
    → TargetOf A begin (t + 1) C q ↔ (TargetOf A begin t C q ⊎ D q)
target_more A begin t C D begin_le is q = (
  λ ((s, from, below, at), c).
      elim (cases_eq s t) [
        | inl e ↦ inr ((is q).1 (sym at ∙ ap_target e, c))
        | inr n ↦ inl ((s, from, omega arith, at), c)
      ],
  λ h.
      elim h [
        | inl ((s, from, below, at), c) ↦ ((s, from, omega arith, at), c)
        | inr d ↦ let both = (is q).0 d in ((t, begin_le, omega arith, sym both.0), both.1)
      ],
)
  where
    ap_target : {s : ℕ} → s ≡ t → (trans_at A s).target ≡ (trans_at A t).target
    ap_target {s} e = subst (λ k. (trans_at A s).target ≡ (trans_at A k).target) e refl

-- all the moves of a state with a label
pub target_moves :
    (A : Automaton) (p a begin end : ℕ) (C : ℕ → Type 0)
    → IsSuccessors A p a begin end
    → (q : ℕ)
    → TargetOf A begin end C q ↔ (Moves A p a q × C q)
target_moves A p a begin end C s q = (
  λ ((t, from, below, at), c). (subst (λ x. Moves A p a x) at (successor_moves A p a begin end s t from below), c),
  λ (m, c). let (t, from, below, at) = moves_in_successors A p a begin end s q m in ((t, from, below, at), c),
)

-- A row's bits added to the row of a table.
pub added_row :
    (width row : ℕ) (P : ℕ → Type 0) (bits old new : List ℕ)
    → ((q : ℕ) → HasBit bits q ↔ P q)
    → ((q : ℕ) → q < width * 64 → cell_of new width row q ≡ (cell_of old width row q || bit_of bits q))
    → ((r q : ℕ) → q < width * 64 → ¬ (r ≡ row) → cell_of new width r q ≡ cell_of old width r q)
    → HasAdded width row P old new
added_row width row P bits old new marks here others = record {
  here = λ q q_in. (
    λ cell. elim (or_cases (cell_of old width row q) (bit_of bits q) (sym (here q q_in) ∙ cell)) [
      | inl was ↦ inl was
      | inr bit ↦ inr ((marks q).0 bit)
    ],
    λ either. here q q_in ∙ elim either [
      | inl was ↦ or_left (cell_of old width row q) (bit_of bits q) was
      | inr is ↦ or_right (cell_of old width row q) (bit_of bits q) ((marks q).1 is)
    ],
  );
  others = others;
}

-- What was added to an empty row of one table, added to the row of another one by its bits.
pub row_taken :
    (width row : ℕ) (P : ℕ → Type 0) (old new bits from to : List ℕ)
    → ((q : ℕ) → q < width * 64 → cell_of old width row q ≡ false)
    → ((q : ℕ) → P q → q < width * 64)
    → HasAdded width row P old new
    → ((q : ℕ) → q < width * 64 → bit_of bits q ≡ cell_of new width row q)
    → ((q : ℕ) → width * 64 ≤ q → bit_of bits q ≡ false)
    → ((q : ℕ) → q < width * 64 → cell_of to width row q ≡ (cell_of from width row q || bit_of bits q))
    → ((r q : ℕ) → q < width * 64 → ¬ (r ≡ row) → cell_of to width r q ≡ cell_of from width r q)
    → HasAdded width row P from to
row_taken width row P old new bits from to empty near added inside outside here others = added_row width row P bits from to marks here others
  where
    marks : (q : ℕ) → HasBit bits q ↔ P q
    marks q = (
      λ bit. elim (cases_lt q (width * 64)) [
        | inl low ↦ elim ((added.here q low).0 (sym (inside q low) ∙ bit)) [
          | inl was ↦ absurd (false≢true (sym (empty q low) ∙ was))
          | inr one ↦ one
        ]
        | inr far ↦ absurd (false≢true (sym (outside q far) ∙ bit))
      ],
      λ one. inside q (near q one) ∙ (added.here q (near q one)).1 (inr one),
    )
