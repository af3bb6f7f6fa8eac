use Rattle.std.proofs.Common.{◌↔◌, ◌<◌, ℕ}
use Rattle.auto_core.specs.Game.{Holds}
use Rattle.auto_core.specs.Rows.{HasBit}
use Rattle.set_rows.specs.Sets.{IsBelow}
use Rattle.set_rows.proofs.comparing.write_below.Given as goal

abbrev pub invariant-loop-state : goal.invariant-loop-state
invariant-loop-state l = (q : ℕ) → HasBit l.out q ↔ ((q < l.state) × IsBelow (Holds l.order.pairs) l.row q)
