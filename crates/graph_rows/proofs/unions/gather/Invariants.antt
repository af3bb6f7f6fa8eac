use Rattle.std.proofs.Common.{◌*◌, ◌-◌, ◌≤◌}
use Rattle.auto_core.specs.Rows.{HasBit}
use Rattle.auto_core.specs.Reach.{HasArc}
use Rattle.graph_rows.proofs.UnionLemmas.{HasGathered}
use Rattle.graph_rows.proofs.unions.gather.Given as goal

abbrev pub invariant-loop-middle : goal.invariant-loop-middle
invariant-loop-middle g l =
    HasGathered (HasBit l.marks) (HasArc l.table l.count l.width) l.at 0 (g.row.N * 64) l.low
    × HasGathered (HasBit l.marks) (HasArc l.table l.count l.width) l.at ((l.width - g.row.N) * 64) (g.row.N * 64) l.high
    × (l.at ≤ l.width * 64)

abbrev pub decreases-loop-middle : goal.decreases-loop-middle
decreases-loop-middle g l = l.width * 64 - l.at
