-- What was told of pairs of graphs, as it is remembered.
use Rattle.std.specs.Prelude.{◌≡◌, ℕ, ◌<◌, ◌↔◌, List, length, IsTrue}
use Rattle.auto_core.specs.Automaton.{Automaton}
use Rattle.auto_core.specs.Game.{Holds}
use Rattle.auto_core.specs.Graph.{Covers}
use Rattle.auto_core.specs.Outcome.{At}
use Rattle.graph_rows.specs.Block.{block_graph}
use Rattle.graph_rows.specs.declared.prints.Print.{Print}
use Rattle.graph_rows.specs.Prints.{IsPrint}
use Rattle.shared_graphs.specs.declared.memo.Answer.{Answer}
use Rattle.shared_graphs.specs.declared.memo.Answer.TheVariants.{Number, Truth}
use Rattle.shared_graphs.specs.declared.coverings.Coverings.{Coverings}
use Rattle.shared_graphs.specs.declared.graph_pairs.GraphPairs.{GraphPairs}
use Rattle.shared_graphs.specs.Graphs.{block_at}
use Rattle.shared_graphs.specs.Glimpses.{AreGlimpses}
use Rattle.shared_graphs.specs.Memo.{AllTold}

-- The answer tells whether the first graph covers the second.
abbrev pub FitsCovering : ℕ → List (ℕ × ℕ) → List (List ℕ) → ℕ → ℕ → Answer → Type 0
FitsCovering n S graphs g h (Number k) = Unit {0}
FitsCovering n S graphs g h (Truth is) =
    (g < length graphs) × (h < length graphs)
    × (IsTrue is
    ↔ Covers (Holds S) (block_graph n (block_at graphs g)) (block_graph n (block_at graphs h)))

-- The glimpses are those of the graphs, and there is room for the lasso test.
pub record AreLassosTold (B : Automaton) (graphs : List (List ℕ))
    (answers : GraphPairs) : Type 0 where
  pub glimpses : AreGlimpses B graphs answers.glimpses.items
  pub room : answers.scratch ≡ B.states

-- Each print is that of the graph with its number.
abbrev pub ArePrints : ℕ → List (ℕ × ℕ) → List (List ℕ) → List Print → Type 0
ArePrints n S graphs prints =
    (k : ℕ) (print : Print) → At prints k print
    → (k < length graphs) × IsPrint n (Holds S) (block_at graphs k) print

-- What is remembered of coverings is so.
pub record AreCoverings (n : ℕ) (S : List (ℕ × ℕ)) (graphs : List (List ℕ))
    (c : Coverings) : Type 0 where
  pub prints : ArePrints n S graphs c.prints.items
  pub told : AllTold (FitsCovering n S graphs) c.memo.told.items

-- All that is remembered of pairs is so.
pub record AreGraphPairs (B : Automaton) (S : List (ℕ × ℕ)) (graphs : List (List ℕ))
    (answers : GraphPairs) : Type 0 where
  pub covers : AreCoverings B.states S graphs answers.covers
  pub lassos : AreLassosTold B graphs answers
