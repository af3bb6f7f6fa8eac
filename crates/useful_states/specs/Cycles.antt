-- The moves of an automaton as a graph, and the numbers of its components.
use Rattle.std.specs.Prelude.{◌≡◌, ℕ, ◌+◌, ◌<◌, ◌≤◌, List, length}
use Rattle.auto_core.specs.Automaton.{Automaton, IsOutgoing, Moves, trans_at}
use Rattle.auto_core.specs.Useful.{Reaches}
use Rattle.strong_components.specs.Graph.{at}

-- Each state's arcs start where its transitions do, and end with them.
pub record AreSpans (A : Automaton) (starts : List ℕ) : Type 0 where
  pub size : length starts ≡ A.states + 1
  pub each : (v : ℕ) → v < A.states → IsOutgoing A v (at starts v) (at starts (v + 1))

-- The arcs lead where the transitions do.
pub record AreTargets (A : Automaton) (targets : List ℕ) : Type 0 where
  pub size : length targets ≡ length A.transitions
  pub each : (k : ℕ) → k < length A.transitions → at targets k ≡ (trans_at A k).target

-- Each state has the number of its component: a move leads to no greater number, and from where one
-- leads to an equal number the state that it leaves is reached again.
pub record AreComponentNumbers (A : Automaton) (numbers : List ℕ) : Type 0 where
  pub size : length numbers ≡ A.states
  pub fall : (p a q : ℕ) → Moves A p a q → at numbers q ≤ at numbers p
  pub joined : (p a q : ℕ) → Moves A p a q → at numbers q ≡ at numbers p → Reaches A q p
