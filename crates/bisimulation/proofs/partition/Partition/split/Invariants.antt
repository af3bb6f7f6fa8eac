use Rattle.bisimulation.proofs.SplitLemmas.{IsUnderWay}
use Rattle.bisimulation.proofs.partition.Partition.split.Given as goal

abbrev pub invariant-loop-i : goal.invariant-loop-i
invariant-loop-i l = IsUnderWay l.fn.self l.self l.parts.keys l.listed l.i l.moved.items
