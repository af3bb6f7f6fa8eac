-- The states of graphs from which they have a loop, as they are marked.
use Rattle.std.specs.Prelude.{◌≡◌, ℕ, ◌↔◌, List, length}
use Rattle.auto_core.specs.Graph as words
use Rattle.auto_core.specs.Rows.{HasBit}
use Rattle.graph_rows.specs.Block.{width_of}
use Rattle.lasso_test.specs.Loops.{HasLoop}

-- The row of n bits marks the states from which the graph has a loop.
pub record IsLoopRow (n : ℕ) (graph : words.Graph) (row : List ℕ) : Type 0 where
  pub len : length row ≡ width_of n
  pub marks : (q : ℕ) → HasBit row q ↔ HasLoop graph q
