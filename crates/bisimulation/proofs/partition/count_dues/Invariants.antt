use Rattle.std.proofs.Common.{◌≡◌, length}
use Rattle.bisimulation.proofs.partition.count_dues.Given as goal

abbrev pub invariant-loop-i : goal.invariant-loop-i
invariant-loop-i l = length l.dues.items ≡ length l.initial.dues.items
