-- What an arc stands for: beside a word, the arc that a run on the word has; beside a graph of
-- another automaton, a supergraph.
use Rattle.std.specs.Prelude.{List, ℕ}
use Rattle.auto_core.specs.Graph.{Graph, Supergraph, WordArc}
use Rattle.supergraph.specs.declared.arcs.Arc.{Arc}

-- The arc with the word.
abbrev pub with_word : Arc → List ℕ → WordArc
with_word x w = record { from = x.from; to = x.to; flag = x.accepting; word = w }

-- The arc with the graph.
abbrev pub with_graph : Arc → Graph → Supergraph
with_graph x g = record { from = x.from; to = x.to; flag = x.accepting; graph = g }
