-- Graphs held in blocks of words.
use Rattle.std.specs.Prelude.{◌≡◌, ℕ, ◌+◌, ◌*◌, ◌/◌, List, length, take, drop}
use Rattle.auto_core.specs.Reach.{IsTable}
use Rattle.auto_core.specs.Graph.{Graph, IsGraph, graph_of_tables}

-- The words of a row of n bits.
abbrev pub width_of : ℕ → ℕ
width_of n = (n + 63) / 64

-- The words of a plane: n rows of n bits.
abbrev pub plane_len : ℕ → ℕ
plane_len n = n * width_of n

-- The first plane of a block: the pairs that are joined.
abbrev pub joined_plane : ℕ → List ℕ → List ℕ
joined_plane n block = take (plane_len n) block

-- The second plane: those that are joined past an accepting state.
abbrev pub past_plane : ℕ → List ℕ → List ℕ
past_plane n block = drop (plane_len n) block

-- The graph of n states that the block stands for.
abbrev pub block_graph : ℕ → List ℕ → Graph
block_graph n block = graph_of_tables (joined_plane n block) (past_plane n block) n (width_of n)

-- The block stands for a graph of n states: two planes, with no bit beyond the n columns, the
-- second one within the first.
pub record IsFormed (n : ℕ) (block : List ℕ) : Type 0 where
  pub len : length block ≡ 2 * n * width_of n
  pub joined : IsTable (joined_plane n block) n (width_of n)
  pub past : IsTable (past_plane n block) n (width_of n)
  pub within : IsGraph (block_graph n block)
