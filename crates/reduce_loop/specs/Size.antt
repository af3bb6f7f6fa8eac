-- Sizes of automata: what every step that changes an automaton lowers, and what no step raises.
use Rattle.std.specs.Prelude.{◌≡◌, ℕ, ◌+◌, ◌≤◌, length}
use Rattle.auto_core.specs.Automaton.{Automaton}

-- The number of states, transitions and accepting states together.
abbrev pub size_of : Automaton → ℕ
size_of A = A.states + length A.transitions + length A.accepting

-- B has the labels of A, and no more states and transitions.
pub record IsNoLarger (A B : Automaton) : Type 0 where
  pub labels : B.labels ≡ A.labels
  pub states : B.states ≤ A.states
  pub transitions : length B.transitions ≤ length A.transitions
