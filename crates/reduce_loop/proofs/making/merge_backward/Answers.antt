use Rattle.std.proofs.Common.{refl}
use Rattle.reduce_loop.proofs.making.merge_backward.Goals as goal

pub returns-clause-entry : goal.returns-clause-entry
returns-clause-entry c = (
  c.in_ok-rel.rel,
  c.in_ok-joined.joined.classes,
  refl,
  record {
    relation = c.in_ok-rel.ensures.greatest;
    joined = c.in_ok-joined.ensures.joined;
  },
)
