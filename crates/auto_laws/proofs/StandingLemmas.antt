-- Graphs that give each pair the same value do the same: as what is extended, in covering and in the lasso test.
use Rattle.std.proofs.Common.{ℕ, ◌↔◌, [], ◌∷◌, ◌++◌}
use Rattle.auto_core.specs.Game.{Holds}
use Rattle.auto_core.specs.Graph.{Graph, SameGraph, graph_of, graph_of_tables, letter_graph, extended, Covers, LassoIn}
use Rattle.auto_laws.specs.Standing.{TablesServeAsGraphs}
use Rattle.auto_laws.proofs.GraphLemmas.{same_sym, same_trans, same_more, graph_of_letter}
use Rattle.auto_laws.proofs.LassoLemmas.{lasso_same}

-- Covering is between values.
pub covers_alike : (S : ℕ → ℕ → Type 0) (g h x y : Graph) → SameGraph g x → SameGraph h y → Covers S g h → Covers S x y
covers_alike S g h x y d e c = record {
  joined = λ s t arc. let r = c.joined s t ((d.joined s t).1 arc) in (r.0, (e.joined s r.0).0 r.1, r.2);
  past = λ s t arc. let r = c.past s t ((d.past s t).1 arc) in (r.0, (e.past s r.0).0 r.1, r.2);
}

pub covers_both_ways : (S : ℕ → ℕ → Type 0) (g h x y : Graph) → SameGraph g x → SameGraph h y → Covers S g h ↔ Covers S x y
covers_both_ways S g h x y d e = (covers_alike S g h x y d e, covers_alike S x y g h (same_sym g x d) (same_sym h y e))

pub lassos_both_ways : (g h x y : Graph) (i : ℕ) → SameGraph g x → SameGraph h y → LassoIn g h i ↔ LassoIn x y i
lassos_both_ways g h x y i d e = (lasso_same g h x y i d e, lasso_same x y g h i (same_sym g x d) (same_sym h y e))

pub tables_serve_as_graphs : TablesServeAsGraphs
tables_serve_as_graphs B n width = record {
  letter = λ joined past a e.
      same_trans (graph_of_tables joined past n width) (letter_graph B a) (graph_of B (a ∷ [])) e
      (same_sym (graph_of B (a ∷ [])) (letter_graph B a) (graph_of_letter B a));
  more = λ joined past joined' past' w a d e.
      same_trans (graph_of_tables joined' past' n width) (extended B (graph_of_tables joined past n width) a) (graph_of B (w ++ a ∷ [])) e
      (same_more B (graph_of_tables joined past n width) w a d);
  covers = λ S joined past joined' past' w x d e.
      covers_both_ways (Holds S) (graph_of_tables joined past n width) (graph_of_tables joined' past' n width) (graph_of B w) (graph_of B x) d e;
  lassos = λ joined past joined' past' w x i d e.
      lassos_both_ways (graph_of_tables joined past n width) (graph_of_tables joined' past' n width) (graph_of B w) (graph_of B x) i d e;
}
