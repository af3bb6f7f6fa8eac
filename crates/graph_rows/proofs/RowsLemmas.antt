-- Tables filled row by row, and the graphs and blocks that they make.
use Rattle.std.proofs.Common.{◌≡◌, ℕ, ◌+◌, ◌*◌, ◌<◌, ◌≤◌, ◌↔◌, inl, inr, false, List, ◌++◌, length, take, drop, sym, ap, ◌∙◌, subst, arith}
use Rattle.std.proofs.Math.Seq.{take-append_seam, drop-append_seam}
use Rattle.std.proofs.lemmas.Bool.{cases_eq, false≢true}
use Rattle.auto_core.specs.Rows.{HasCell, cell_of, bit_of}
use Rattle.auto_core.specs.Reach.{IsTable}
use Rattle.auto_core.specs.Graph.{Graph, IsGraph, SameGraph, graph_of_tables}
use Rattle.graph_rows.specs.Added.{HasAdded}
use Rattle.graph_rows.specs.Block.{width_of, joined_plane, past_plane, block_graph, IsFormed}

-- the first rows have the pairs of P, the others nothing
pub record HasRows (width upto : ℕ) (P : ℕ → ℕ → Type 0) (table : List ℕ) : Type 0 where
  pub rows : (p q : ℕ) → p < upto → q < width * 64 → HasCell table width p q ↔ P p q
  pub empty : (p q : ℕ) → upto ≤ p → q < width * 64 → cell_of table width p q ≡ false

pub rows_none : (width : ℕ) (P : ℕ → ℕ → Type 0) (table : List ℕ) → ((i : ℕ) → bit_of table i ≡ false) → HasRows width 0 P table
rows_none width P table clear = record { rows = λ p q below q_in. absurd (omega arith); empty = λ p q from q_in. clear (p * width * 64 + q) }

pub rows_more :
    (width row : ℕ) (P : ℕ → ℕ → Type 0) (now new : List ℕ)
    → HasRows width row P now
    → HasAdded width row (P row) now new
    → HasRows width (row + 1) P new
rows_more width row P now new h added =
    record {
      rows = λ p q below q_in.
          elim (cases_eq p row) [
            | inl e ↦ subst (λ r. HasCell new width r q ↔ P r q) (sym e) (this q q_in)
            | inr n ↦
                let same = added.others p q q_in n in
                let old = h.rows p q (omega arith) q_in in
                (λ c. old.0 (sym same ∙ c), λ c. same ∙ old.1 c)
          ];
      empty = λ p q from q_in. added.others p q q_in (λ e. omega arith) ∙ h.empty p q (omega arith) q_in;
    }
  where
    this : (q : ℕ) → q < width * 64 → HasCell new width row q ↔ P row q
    this q q_in = (
      λ c.
          elim ((added.here q q_in).0 c) [
            | inl was ↦ absurd (false≢true (sym (h.empty row q (omega arith) q_in) ∙ was))
            | inr one ↦ one
          ],
      λ c. (added.here q q_in).1 (inr c),
    )

-- all rows
pub rows_table :
    (n width : ℕ) (P : ℕ → ℕ → Type 0) (table : List ℕ)
    → n ≤ width * 64
    → length table ≡ n * width
    → ((p q : ℕ) → P p q → q < n)
    → HasRows width n P table
    → IsTable table n width
rows_table n width P table room len target h =
    record { len = len; room = room; columns = λ p q p_in q_in c. target p q ((h.rows p q p_in q_in).0 c) }

pub rows_graph :
    (n width : ℕ) (g : Graph) (joined past : List ℕ)
    → n ≤ width * 64
    → ((p q : ℕ) → g.joined p q → (p < n) × (q < n))
    → ((p q : ℕ) → g.past p q → (p < n) × (q < n))
    → HasRows width n g.joined joined
    → HasRows width n g.past past
    → SameGraph (graph_of_tables joined past n width) g
rows_graph n width g joined past room in_joined in_past h k =
    record {
      joined = λ p q. (
        λ (p_in, q_in, c). (h.rows p q p_in (omega arith)).0 c,
        λ a. let (p_in, q_in) = in_joined p q a in (p_in, q_in, (h.rows p q p_in (omega arith)).1 a),
      );
      past = λ p q. (
        λ (p_in, q_in, c). (k.rows p q p_in (omega arith)).0 c,
        λ a. let (p_in, q_in) = in_past p q a in (p_in, q_in, (k.rows p q p_in (omega arith)).1 a),
      );
    }

-- two planes, one after the other, are a block
pub formed_of_planes :
    (n : ℕ) (g : Graph) (joined past : List ℕ)
    → IsGraph g
    → IsTable joined n (width_of n)
    → IsTable past n (width_of n)
    → SameGraph (graph_of_tables joined past n (width_of n)) g
    → length (joined ++ past) ≡ 2 * n * width_of n
    → IsFormed n (joined ++ past) × SameGraph (block_graph n (joined ++ past)) g
formed_of_planes n g joined past is first second same len = (
  record {
    len = len;
    joined = subst (λ t. IsTable t n (width_of n)) (sym first_part) first;
    past = subst (λ t. IsTable t n (width_of n)) (sym second_part) second;
    within = λ s t a. (graph.joined s t).1 (is s t ((graph.past s t).0 a));
  },
  graph,
)
  where
    first_part : joined_plane n (joined ++ past) ≡ joined
    first_part = ap (λ k. take k (joined ++ past)) (sym first.len) ∙ take-append_seam joined past

    second_part : past_plane n (joined ++ past) ≡ past
    second_part = ap (λ k. drop k (joined ++ past)) (sym first.len) ∙ drop-append_seam joined past

    graph : SameGraph (block_graph n (joined ++ past)) g
    graph =
        subst (λ t. SameGraph (graph_of_tables t (past_plane n (joined ++ past)) n (width_of n)) g) (sym first_part)
        (subst (λ t. SameGraph (graph_of_tables joined t n (width_of n)) g) (sym second_part) same)
