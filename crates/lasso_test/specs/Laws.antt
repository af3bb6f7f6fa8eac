-- What the marks of loops tell: two graphs have a lasso just where the first leads to a state from
-- which the second has a loop.
use Rattle.std.specs.Prelude.{◌↔◌, ℕ, List}
use Rattle.auto_core.specs.Automaton.{Automaton}
use Rattle.auto_core.specs.Graph.{Graph, LassoIn, graph_of, graph_of_values}
use Rattle.graph_rows.specs.Block.{block_graph, IsFormed}
use Rattle.lasso_test.specs.Loops.{HasLoop}

-- An arc of the first graph leads from the state i to a state from which the second has a loop.
abbrev pub EntersLoop : Graph → Graph → ℕ → Type 0
EntersLoop g h i = (q : ℕ) × g.joined i q × HasLoop h q

-- Graphs of values have a lasso just there.
abbrev pub LassosEnterLoops : Type 0
LassosEnterLoops =
    (v w : ℕ → ℕ → ℕ) (i : ℕ)
    → LassoIn (graph_of_values v) (graph_of_values w) i
    ↔ EntersLoop (graph_of_values v) (graph_of_values w) i

-- So do graphs in blocks.
abbrev pub BlocksEnterLoops : Type 0
BlocksEnterLoops =
    (n : ℕ) (g h : List ℕ) (i : ℕ)
    → IsFormed n h
    → LassoIn (block_graph n g) (block_graph n h) i
    ↔ EntersLoop (block_graph n g) (block_graph n h) i

-- And so do graphs of words.
abbrev pub WordsEnterLoops : Type 0
WordsEnterLoops =
    (B : Automaton) (u v : List ℕ) (i : ℕ)
    → LassoIn (graph_of B u) (graph_of B v) i ↔ EntersLoop (graph_of B u) (graph_of B v) i
