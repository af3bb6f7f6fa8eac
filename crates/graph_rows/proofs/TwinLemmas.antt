-- Rows of a table that are the same, and what extends them.
use Rattle.std.proofs.Common.{◌≡◌, ℕ, ◌+◌, ◌*◌, ◌/◌, ◌%◌, ◌<◌, ◌≤◌, ◌↔◌, ◌==◌, inl, inr, false, List, get_or, sym, ap, ◌∙◌, arith}
use Rattle.std.specs.Int.{bit_at}
use Rattle.std.proofs.lemmas.Bool.{false≢true}
use Rattle.std.proofs.lemmas.Nat.{row_fits}
use Rattle.auto_core.specs.Automaton.{Automaton}
use Rattle.auto_core.specs.Rows.{cell_of}
use Rattle.auto_core.specs.Reach.{HasArc}
use Rattle.auto_core.specs.Graph.{IsGraph, extended, graph_of_tables}
use Rattle.auto_core.proofs.CellLemmas.{cell_at}
use Rattle.graph_rows.specs.Added.{HasAdded}
use Rattle.graph_rows.proofs.RowsLemmas.{HasRows}

-- The words of one row made those of another row of the old table.
pub row_copied :
    (old new : List ℕ) (w from to : ℕ)
    → ((k : ℕ) → k < w → get_or new (to * w + k) 0 ≡ get_or old (from * w + k) 0)
    → (q : ℕ)
    → q < w * 64
    → cell_of new w to q ≡ cell_of old w from q
row_copied old new w from to each q q_in =
    let word_in : q / 64 < w = omega arith in
    rw (cell_at new w to q, cell_at old w from q)
    (ap (λ n. bit_at n (q % 64) == 1) (each (q / 64) word_in))

-- A row that lies before another one.
pub row_before : (w from to k : ℕ) → from < to → k < w → from * w + k < to * w
row_before w from to k before k_in = let fits = row_fits from w to w before (omega arith) in omega (arith, fits)

-- What a copy adds to an empty row, where the rows before it have the pairs of P and P has the same pairs for both rows.
pub copy_added :
    (w row other : ℕ) (P : ℕ → ℕ → Type 0) (now new : List ℕ)
    → other < row
    → HasRows w row P now
    → ((q : ℕ) → P other q ↔ P row q)
    → ((q : ℕ) → q < w * 64 → cell_of new w row q ≡ cell_of now w other q)
    → ((r q : ℕ) → q < w * 64 → ¬ (r ≡ row) → cell_of new w r q ≡ cell_of now w r q)
    → HasAdded w row (P row) now new
copy_added w row other P now new before h same here others = record {
  here = λ q q_in.
      let there = h.rows other q before q_in in (
        λ cell. inr ((same q).0 (there.0 (sym (here q q_in) ∙ cell))),
        λ either. elim either [
          | inl was ↦ absurd (false≢true (sym (h.empty row q (omega arith) q_in) ∙ was))
          | inr one ↦ here q q_in ∙ there.1 ((same q).1 one)
        ],
      );
  others = others;
}

-- Where two rows of both tables are the same, what extends them is.
module _ (A : Automaton) (joined past : List ℕ) (w a p o : ℕ) (room : A.states ≤ w * 64) (p_in : p < A.states) (o_in : o < A.states) where
  arc_moves :
      (table : List ℕ) (r s : ℕ)
      → s < A.states
      → ((q : ℕ) → q < w * 64 → cell_of table w r q ≡ cell_of table w s q)
      → (m : ℕ)
      → HasArc table A.states w r m
      → HasArc table A.states w s m
  arc_moves table r s s_in same m (r_in, m_in, cell) = (s_in, m_in, sym (same m (omega (arith, room))) ∙ cell)

  joined_moves :
      (r s : ℕ)
      → s < A.states
      → ((q : ℕ) → q < w * 64 → cell_of joined w r q ≡ cell_of joined w s q)
      → (q : ℕ)
      → (extended A (graph_of_tables joined past A.states w) a).joined r q
      → (extended A (graph_of_tables joined past A.states w) a).joined s q
  joined_moves r s s_in same q (m, arc, move) = (m, arc_moves joined r s s_in same m arc, move)

  past_moves :
      (r s : ℕ)
      → s < A.states
      → ((q : ℕ) → q < w * 64 → cell_of joined w r q ≡ cell_of joined w s q)
      → ((q : ℕ) → q < w * 64 → cell_of past w r q ≡ cell_of past w s q)
      → (q : ℕ)
      → (extended A (graph_of_tables joined past A.states w) a).past r q
      → (extended A (graph_of_tables joined past A.states w) a).past s q
  past_moves r s s_in same same_past q (m, move, way) = (
    m,
    move,
    elim way [
      | inl one ↦ inl (arc_moves past r s s_in same_past m one)
      | inr both ↦ inr (arc_moves joined r s s_in same m both.0, both.1)
    ],
  )

  pub twin_joined :
      ((q : ℕ) → q < w * 64 → cell_of joined w p q ≡ cell_of joined w o q)
      → (q : ℕ)
      → (extended A (graph_of_tables joined past A.states w) a).joined o q ↔ (extended A (graph_of_tables joined past A.states w) a).joined p q
  twin_joined same q = (joined_moves o p p_in (λ k k_in. sym (same k k_in)) q, joined_moves p o o_in same q)

  pub twin_past :
      ((q : ℕ) → q < w * 64 → cell_of joined w p q ≡ cell_of joined w o q)
      → ((q : ℕ) → q < w * 64 → cell_of past w p q ≡ cell_of past w o q)
      → (q : ℕ)
      → (extended A (graph_of_tables joined past A.states w) a).past o q ↔ (extended A (graph_of_tables joined past A.states w) a).past p q
  twin_past same same_past q =
      (past_moves o p p_in (λ k k_in. sym (same k k_in)) (λ k k_in. sym (same_past k k_in)) q, past_moves p o o_in same same_past q)

-- A state without arcs has none that go on.
pub none_joined :
    (A : Automaton) (joined past : List ℕ) (w a p : ℕ)
    → A.states ≤ w * 64
    → ((q : ℕ) → q < w * 64 → cell_of joined w p q ≡ false)
    → (q : ℕ)
    → (extended A (graph_of_tables joined past A.states w) a).joined p q
    → ⊥
none_joined A joined past w a p room empty q (m, (p_in, m_in, cell), move) = false≢true (sym (empty m (omega (arith, room, m_in))) ∙ cell)

pub none_past :
    (A : Automaton) (joined past : List ℕ) (w a p : ℕ)
    → A.states ≤ w * 64
    → IsGraph (graph_of_tables joined past A.states w)
    → ((q : ℕ) → q < w * 64 → cell_of joined w p q ≡ false)
    → (q : ℕ)
    → (extended A (graph_of_tables joined past A.states w) a).past p q
    → ⊥
none_past A joined past w a p room within empty q (m, move, way) =
    let arc : HasArc joined A.states w p m = elim way [ inl one ↦ within p m one | inr both ↦ both.0 ] in
    none_joined A joined past w a p room empty q (m, arc, move)
