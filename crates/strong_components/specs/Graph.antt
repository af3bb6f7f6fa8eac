-- Graphs whose arcs stand by the nodes that they leave, and their strongly connected components.
use Rattle.std.specs.Prelude.{◌≡◌, ℕ, ◌+◌, ◌^◌, ◌<◌, ◌≤◌, List, length, slice_index_or}
use Rattle.auto_core.specs.Game.{Close}

-- The number at this place of the list, 0 past its end.
abbrev pub at : List ℕ → ℕ → ℕ
at xs i = slice_index_or xs i 0

-- The arcs of node v lead to the targets from `starts v` up to `starts (v + 1)`, nodes too. There
-- are fewer than 2^32
-- - 1 nodes.
pub record IsGraph (starts targets : List ℕ) (nodes : ℕ) : Type 0 where
  pub size : length starts ≡ nodes + 1
  pub few : nodes + 1 < 2 ^ 32
  pub rising : (v : ℕ) → v < nodes → at starts v ≤ at starts (v + 1)
  pub within : (v : ℕ) → v < nodes → at starts (v + 1) ≤ length targets
  pub to_nodes : (k : ℕ) → k < length targets → at targets k < nodes

-- The arc with the number k leaves the node.
abbrev pub IsArcOf : List ℕ → ℕ → ℕ → Type 0
IsArcOf starts v k = (at starts v ≤ k) × (k < at starts (v + 1))

-- An arc leads from v to w.
abbrev pub HasArc : List ℕ → List ℕ → ℕ → ℕ → Type 0
HasArc starts targets v w = (k : ℕ) × IsArcOf starts v k × (at targets k ≡ w)

-- The numbers are those of components: an arc leads to no greater number, and one between equal
-- numbers has a way back.
pub record AreComponents (starts targets : List ℕ) (nodes : ℕ) (numbers : List ℕ) : Type 0 where
  pub size : length numbers ≡ nodes
  pub fall : (v w : ℕ) → v < nodes → HasArc starts targets v w → at numbers w ≤ at numbers v
  pub joined : (v w : ℕ) → v < nodes → HasArc starts targets v w → at numbers w ≡ at numbers v
      → Close (HasArc starts targets) w v
