-- Glimpses of graphs.
use Rattle.std.specs.Prelude.{◌≡◌, ◌⊎◌, ℕ, ◌<◌, List, [], ◌∷◌, length}
use Rattle.auto_core.specs.Automaton.{Automaton}
use Rattle.auto_core.specs.Graph as words
use Rattle.auto_core.specs.Outcome.{At}
use Rattle.auto_core.specs.Rows.{HasBit}
use Rattle.graph_rows.specs.Block.{block_graph}
use Rattle.lasso_test.specs.Loops.{HasLoop}
use Rattle.shared_graphs.specs.declared.glimpses.Glimpse.{Glimpse}
use Rattle.shared_graphs.specs.Graphs.{block_at}
use Rattle.shared_graphs.specs.Looping.{IsLoopRow}

-- The bits are of states that an arc enters from the initial state, and of states from which there
-- is a loop; the row, if there is one, marks all of these.
pub record IsGlimpse (B : Automaton) (graph : words.Graph) (glimpse : Glimpse) : Type 0 where
  pub entered : (q : ℕ) → HasBit (glimpse.entered ∷ []) q → graph.joined B.initial q
  pub looping : (q : ℕ) → HasBit (glimpse.looping ∷ []) q → HasLoop graph q
  pub row : (glimpse.row.items ≡ []) ⊎ IsLoopRow B.states graph glimpse.row.items

-- Each glimpse is that of the graph with its number.
abbrev pub AreGlimpses : Automaton → List (List ℕ) → List Glimpse → Type 0
AreGlimpses B graphs glimpses =
    (k : ℕ) (x : Glimpse) → At glimpses k x
    → (k < length graphs) × IsGlimpse B (block_graph B.states (block_at graphs k)) x

-- The first graph enters a state from which the second has a loop, both by their glimpses.
pub record MeetAtSight (glimpses : List Glimpse) (g h : ℕ) : Type 0 where
  pub first : Glimpse
  pub second : Glimpse
  pub first_is : At glimpses g first
  pub second_is : At glimpses h second
  pub state : ℕ
  pub entered : HasBit (first.entered ∷ []) state
  pub looping : HasBit (second.looping ∷ []) state
