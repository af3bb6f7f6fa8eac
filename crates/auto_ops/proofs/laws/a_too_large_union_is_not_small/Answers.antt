use Rattle.auto_ops.proofs.OneLaws.{union_limits}
use Rattle.auto_ops.proofs.laws.a_too_large_union_is_not_small.Goals as goal

pub returns : goal.returns
returns c = union_limits
