use Rattle.std.proofs.Common.{◌*◌, ◌-◌, ◌≤◌}
use Rattle.auto_core.specs.Rows.{HasBit}
use Rattle.auto_core.specs.Reach.{HasArc}
use Rattle.graph_rows.specs.Added.{HasAdded}
use Rattle.graph_rows.proofs.ExtensionLemmas.{Through}
use Rattle.graph_rows.proofs.unions.add_rows.Given as goal

abbrev pub invariant-loop-middle : goal.invariant-loop-middle
invariant-loop-middle l =
    HasAdded l.width l.row (Through (HasBit l.marks) l.at (HasArc l.table l.count l.width)) l.fn.into l.into
    × (l.at ≤ l.width * 64)

abbrev pub decreases-loop-middle : goal.decreases-loop-middle
decreases-loop-middle l = l.width * 64 - l.at
