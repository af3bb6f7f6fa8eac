use Rattle.auto_ops.proofs.UnionLaws.{union_lassos}
use Rattle.auto_ops.proofs.laws.union_of_lassos.Goals as goal

pub returns : goal.returns
returns c = union_lassos
