use Rattle.std.proofs.lemmas.Bool.{false≢true}
use Rattle.antichain.proofs.meeting.subsumes.Goals as goal

pub returns-then-misses : goal.returns-then-misses
returns-then-misses c = (
  λ told. absurd (false≢true told),
  λ both. absurd (c.misses.ensures c.if-misses.true c.args.x.now.members.items c.args.y.now.below.items c.requires.head c.requires.below_head both.1),
)
