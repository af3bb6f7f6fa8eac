use Rattle.auto_ops.proofs.OneLaws.{union_there}
use Rattle.auto_ops.proofs.laws.union_is_there.Goals as goal

pub returns : goal.returns
returns c = union_there
