use Rattle.antichain.proofs.HeadLemmas.{not_inside}
use Rattle.antichain.proofs.meeting.misses.Goals as goal

pub returns-then-head-bound-ne0 : goal.returns-then-head-bound-ne0
returns-then-head-bound-ne0 c = λ told row other head_is bound_is inside.
    not_inside row other c.args.head c.args.bound c.ranges.head.fits c.ranges.bound.fits head_is bound_is c.if-head-bound-ne0.true inside
