use Rattle.std.proofs.Common.{◌*◌}
use Rattle.auto_core.proofs.Marking.{IsMarking}
use Rattle.auto_core.proofs.ReachLemmas.{unset}
use Rattle.auto_core.proofs.reach.reach.Given as goal

abbrev pub invariant-loop-place : goal.invariant-loop-place
invariant-loop-place l = IsMarking l.table l.count l.width l.fn.marks l.marks l.done

abbrev pub decreases-loop-place : goal.decreases-loop-place
decreases-loop-place l = unset l.done (l.width * 64)
