-- Tables of bits that give each pair of states the value that a word's graph does: they may stand
-- for the graph.
use Rattle.std.specs.Prelude.{ℕ, ◌↔◌, List, [], ◌∷◌, ◌++◌}
use Rattle.auto_core.specs.Automaton.{Automaton}
use Rattle.auto_core.specs.Game.{Holds}
use Rattle.auto_core.specs.Graph.{SameGraph, graph_of, graph_of_tables, letter_graph, extended, Covers, LassoIn}

-- The two tables stand for the graph of the word.
abbrev pub TablesStandFor : Automaton → ℕ → ℕ → List ℕ → List ℕ → List ℕ → Type 0
TablesStandFor B n width joined past w =
    SameGraph (graph_of_tables joined past n width) (graph_of B w)

-- For tables with n rows of `width` words: those with the moves of a letter stand for its word;
-- those with an extension by a letter stand for the longer word; covers and lassos are the same
-- between the tables and between the words' graphs.
pub record ServeAsGraphs (B : Automaton) (n width : ℕ) : Type 0 where
  pub letter : (joined past : List ℕ) (a : ℕ)
      → SameGraph (graph_of_tables joined past n width) (letter_graph B a)
      → TablesStandFor B n width joined past (a ∷ [])
  pub more : (joined past joined' past' w : List ℕ) (a : ℕ) → TablesStandFor B n width joined past w
      →
      SameGraph (graph_of_tables joined' past' n width)
      (extended B (graph_of_tables joined past n width) a)
      → TablesStandFor B n width joined' past' (w ++ a ∷ [])
  pub covers : (S : List (ℕ × ℕ)) (joined past joined' past' w x : List ℕ)
      → TablesStandFor B n width joined past w → TablesStandFor B n width joined' past' x →
      Covers (Holds S) (graph_of_tables joined past n width) (graph_of_tables joined' past' n width)
      ↔ Covers (Holds S) (graph_of B w) (graph_of B x)
  pub lassos : (joined past joined' past' w x : List ℕ) (i : ℕ)
      → TablesStandFor B n width joined past w → TablesStandFor B n width joined' past' x →
      LassoIn (graph_of_tables joined past n width) (graph_of_tables joined' past' n width) i
      ↔ LassoIn (graph_of B w) (graph_of B x) i

-- That is so for all sizes.
abbrev pub TablesServeAsGraphs : Type 0
TablesServeAsGraphs = (B : Automaton) (n width : ℕ) → ServeAsGraphs B n width
