use Rattle.std.proofs.Common.{ℕ, ◌<◌}
use Rattle.auto_core.specs.Game.{Holds}
use Rattle.auto_core.specs.Rows.{HasBit}
use Rattle.set_rows.specs.Sets.{IsBelow}
use Rattle.set_rows.proofs.comparing.covers.Given as goal

abbrev pub invariant-loop-state : goal.invariant-loop-state
invariant-loop-state l = (q : ℕ) → q < l.state → HasBit l.row q → IsBelow (Holds l.order.pairs) l.other q
