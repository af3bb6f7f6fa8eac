use Rattle.auto_ops.proofs.OneLaws.{intersection_one}
use Rattle.auto_ops.proofs.laws.intersection_is_one.Goals as goal

pub returns : goal.returns
returns c = intersection_one
