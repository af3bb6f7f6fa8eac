-- A row of a graph extended by a letter, from the lowest column of the row up.
use Rattle.std.proofs.Common.{◌≡◌, ℕ, ◌+◌, ◌*◌, ◌<◌, ◌≤◌, ◌↔◌, ◌⊎◌, inl, inr, false, List, length, sym, ◌∙◌, subst, arith}
use Rattle.std.proofs.lemmas.Bool.{cases_eq, cases_lt, false≢true}
use Rattle.auto_core.specs.Automaton.{Automaton, IsAutomaton}
use Rattle.auto_core.specs.Rows.{cell_of, bit_of}
use Rattle.auto_core.specs.Reach.{IsTable, HasArc}
use Rattle.auto_core.specs.Graph.{Graph, IsGraph, SameGraph, graph_of_tables, letter_graph, extended}
use Rattle.auto_core.proofs.MoveLemmas.{move_in_range}
use Rattle.graph_rows.proofs.RowsLemmas.{HasRows, rows_table, rows_graph}

-- Some place before `upto` is joined by From, and C leads from it to q.
abbrev pub Through : (ℕ → Type 0) → ℕ → (ℕ → ℕ → Type 0) → ℕ → Type 0
Through From upto C q = (m : ℕ) × (m < upto) × From m × C m q

pub through_none : (From : ℕ → Type 0) (C : ℕ → ℕ → Type 0) (q : ℕ) → Through From 0 C q → ⊥
through_none From C q (m, below, j, c) = absurd (omega arith)

pub through_more :
    (From : ℕ → Type 0) (at middle : ℕ) (C : ℕ → ℕ → Type 0) (D : ℕ → Type 0)
    → at ≤ middle
    → From middle
    → ((k : ℕ) → at ≤ k → k < middle → From k → ⊥)
    → (q : ℕ)
    → D q ↔ C middle q
    → Through From (middle + 1) C q ↔ (Through From at C q ⊎ D q)
through_more From at middle C D from here none q is = (
  λ (m, below, j, c).
      elim (cases_eq m middle) [
        | inl e ↦ inr (is.1 (subst (λ k. C k q) e c))
        | inr n ↦ elim (cases_lt m at) [ inl h ↦ inl (m, h, j, c) | inr h ↦ absurd (none m h (omega arith) j) ]
      ],
  λ h.
      elim h [
        | inl (m, below, j, c) ↦ (m, omega arith, j, c)
        | inr d ↦ (middle, omega arith, here, is.0 d)
      ],
)

pub through_skip :
    (From : ℕ → Type 0) (at upto : ℕ) (C : ℕ → ℕ → Type 0)
    → at ≤ upto
    → ((k : ℕ) → at ≤ k → k < upto → From k → ⊥)
    → (q : ℕ)
    → Through From at C q ↔ Through From upto C q
through_skip From at upto C from none q = (
  λ (m, below, j, c). (m, omega arith, j, c),
  λ (m, below, j, c). elim (cases_lt m at) [ inl h ↦ (m, h, j, c) | inr h ↦ absurd (none m h below j) ],
)

pub through_all :
    (From : ℕ → Type 0) (at : ℕ) (C : ℕ → ℕ → Type 0)
    → ((k : ℕ) → at ≤ k → From k → ⊥)
    → (q : ℕ)
    → Through From at C q ↔ ((m : ℕ) × From m × C m q)
through_all From at C none q = (
  λ (m, below, j, c). (m, j, c),
  λ (m, j, c). elim (cases_lt m at) [ inl h ↦ (m, h, j, c) | inr h ↦ absurd (none m h j) ],
)

-- the letter's graph and the extended graph join states only, and what they join past an accepting state they join
pub letter_joined_in : (A : Automaton) → IsAutomaton A → (a p q : ℕ) → (letter_graph A a).joined p q → (p < A.states) × (q < A.states)
letter_joined_in A valid a p q m = let r = move_in_range A valid p a q m in (r.0, r.1)

pub letter_past_in : (A : Automaton) → IsAutomaton A → (a p q : ℕ) → (letter_graph A a).past p q → (p < A.states) × (q < A.states)
letter_past_in A valid a p q (m, acc) = letter_joined_in A valid a p q m

pub letter_is_graph : (A : Automaton) (a : ℕ) → IsGraph (letter_graph A a)
letter_is_graph A a s t (m, acc) = m

pub extended_is_graph : (A : Automaton) (g : Graph) (a : ℕ) → IsGraph g → IsGraph (extended A g a)
extended_is_graph A g a is s t (m, move, way) =
    (m, elim way [ inl past ↦ is s m past | inr arc ↦ arc.0 ], move)

pub extended_joined_in :
    (A : Automaton) → IsAutomaton A
    → (joined past : List ℕ) (width a p q : ℕ)
    → (extended A (graph_of_tables joined past A.states width) a).joined p q
    → (p < A.states) × (q < A.states)
extended_joined_in A valid joined past width a p q (m, arc, move) = let r = move_in_range A valid m a q move in (arc.0, r.1)

pub extended_past_in :
    (A : Automaton) → IsAutomaton A
    → (joined past : List ℕ) (width a p q : ℕ)
    → (extended A (graph_of_tables joined past A.states width) a).past p q
    → (p < A.states) × (q < A.states)
extended_past_in A valid joined past width a p q (m, move, way) =
    let r = move_in_range A valid m a q move in
    (elim way [ inl h ↦ h.0 | inr h ↦ h.0.0 ], r.1)

-- what a row's bits have behind the place: the bits of a row of the table, and the arcs
pub no_arc :
    (table row : List ℕ) (n width p k : ℕ)
    → ((q : ℕ) → q < width * 64 → bit_of row q ≡ cell_of table width p q)
    → n ≤ width * 64
    → bit_of row k ≡ false
    → HasArc table n width p k
    → ⊥
no_arc table row n width p k inside room clear (p_in, k_in, cell) =
    false≢true (sym clear ∙ inside k (omega arith) ∙ cell)

-- Two tables of which each row is written: those of the extended graph.
module _
    (A : Automaton) (valid : IsAutomaton A) (from_joined from_past joined past : List ℕ) (w a upto : ℕ)
    (room : A.states ≤ w * 64)
    (over : upto ≡ A.states)
    (joined_rows : HasRows w upto (extended A (graph_of_tables from_joined from_past A.states w) a).joined joined)
    (past_rows : HasRows w upto (extended A (graph_of_tables from_joined from_past A.states w) a).past past) where
  all_joined : HasRows w A.states (extended A (graph_of_tables from_joined from_past A.states w) a).joined joined
  all_joined = subst (λ k. HasRows w k (extended A (graph_of_tables from_joined from_past A.states w) a).joined joined) over joined_rows

  all_past : HasRows w A.states (extended A (graph_of_tables from_joined from_past A.states w) a).past past
  all_past = subst (λ k. HasRows w k (extended A (graph_of_tables from_joined from_past A.states w) a).past past) over past_rows

  pub written_joined : length joined ≡ A.states * w → IsTable joined A.states w
  written_joined len =
      rows_table A.states w (extended A (graph_of_tables from_joined from_past A.states w) a).joined joined room len
      (λ p q arc. (extended_joined_in A valid from_joined from_past w a p q arc).1) all_joined

  pub written_past : length past ≡ A.states * w → IsTable past A.states w
  written_past len =
      rows_table A.states w (extended A (graph_of_tables from_joined from_past A.states w) a).past past room len
      (λ p q arc. (extended_past_in A valid from_joined from_past w a p q arc).1) all_past

  pub written_graph : SameGraph (graph_of_tables joined past A.states w) (extended A (graph_of_tables from_joined from_past A.states w) a)
  written_graph =
      rows_graph A.states w (extended A (graph_of_tables from_joined from_past A.states w) a) joined past room
      (extended_joined_in A valid from_joined from_past w a) (extended_past_in A valid from_joined from_past w a) all_joined all_past
