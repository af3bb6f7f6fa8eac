use Rattle.bisimulation.proofs.RegardLemmas.{IsListing}
use Rattle.bisimulation.proofs.partition.Partition.list.Given as goal

abbrev pub invariant-loop-i : goal.invariant-loop-i
invariant-loop-i l = IsListing l.fn.self l.self l.due l.i l.listed.items
