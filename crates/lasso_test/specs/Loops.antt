-- Loops of a graph past an accepting state.
use Rattle.std.specs.Prelude.{ℕ}
use Rattle.auto_core.specs.Game.{Close}
use Rattle.auto_core.specs.Graph.{Graph}

-- From the state s arcs of the graph lead to a state out of which an arc of value 2 leads back to
-- it, by any number of arcs.
pub record HasLoop (h : Graph) (s : ℕ) : Type 0 where
  pub at : ℕ
  pub next : ℕ
  pub reaches : Close h.joined s at
  pub leaves : h.past at next
  pub returns : Close h.joined next at
