use Rattle.std.proofs.Common.{length}
use Rattle.bisimulation.proofs.GatherLemmas.{IsGathering}
use Rattle.bisimulation.proofs.gathering.gather.Given as goal

abbrev pub invariant-loop-list : goal.invariant-loop-list
invariant-loop-list l = IsGathering l.of l.class l.fn.list.items l.list.items l.found.items

abbrev pub decreases-loop-list : goal.decreases-loop-list
decreases-loop-list l = length l.list.items
