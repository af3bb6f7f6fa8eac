use Rattle.graph_rows.specs.Covering.{IsReflexiveBelow}
use Rattle.auto_core.specs.Game.{Holds}
use Rattle.graph_rows.proofs.covering.is_reflexive.Given as goal

-- the order relates each state so far to itself
abbrev pub invariant-loop-state : goal.invariant-loop-state
invariant-loop-state l = IsReflexiveBelow l.state (Holds l.order.pairs)
