use Rattle.antichain.specs.Kept.{held_pair}
use Rattle.antichain.proofs.MeetingLemmas.{AreDroppedSoFar}
use Rattle.antichain.proofs.meeting.drop_subsumed.Given as goal

abbrev pub invariant-loop-number : goal.invariant-loop-number
invariant-loop-number l = AreDroppedSoFar l.order.pairs l.held l.among (held_pair l.new) l.initial.live.items l.live.items l.number-index
