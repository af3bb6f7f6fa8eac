use Rattle.auto_ops.proofs.OneLaws.{union_one}
use Rattle.auto_ops.proofs.laws.union_is_one.Goals as goal

pub returns : goal.returns
returns c = union_one
