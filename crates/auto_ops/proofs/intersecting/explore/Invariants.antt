use Rattle.std.proofs.Common.{◌-◌}
use Rattle.auto_ops.specs.declared.limits.TheConstants.{MOST_STATES}
use Rattle.auto_ops.specs.UnderWay.{IsExploredUpto}
use Rattle.auto_ops.proofs.intersecting.explore.Given as goal

abbrev pub invariant-loop-done : goal.invariant-loop-done
invariant-loop-done l = IsExploredUpto l.mode l.first l.second l.done l.product.product_states.items l.product.transitions.items

abbrev pub decreases-loop-done : goal.decreases-loop-done
decreases-loop-done l = MOST_STATES - l.done
