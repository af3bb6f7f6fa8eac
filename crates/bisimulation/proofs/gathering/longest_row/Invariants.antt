use Rattle.std.proofs.Common.{◌≤◌}
use Rattle.bisimulation.proofs.gathering.longest_row.Given as goal

abbrev pub invariant-loop-i : goal.invariant-loop-i
invariant-loop-i l = l.begin ≤ l.i
