use Rattle.std.proofs.Common.{◌-◌, ◌≤◌}
use Rattle.look_round.proofs.PlaceLemmas.{IsMarkedUpto}
use Rattle.look_round.proofs.words.mark_down.Given as goal

abbrev pub invariant-loop-r : goal.invariant-loop-r
invariant-loop-r l = IsMarkedUpto l.fn.table l.table l.row l.width l.count l.at l.next × (l.next ≤ l.count)

abbrev pub decreases-loop-r : goal.decreases-loop-r
decreases-loop-r l = l.count - l.next
