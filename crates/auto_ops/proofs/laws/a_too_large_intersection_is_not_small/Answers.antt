use Rattle.auto_ops.proofs.OneLaws.{intersection_limits}
use Rattle.auto_ops.proofs.laws.a_too_large_intersection_is_not_small.Goals as goal

pub returns : goal.returns
returns c = intersection_limits
