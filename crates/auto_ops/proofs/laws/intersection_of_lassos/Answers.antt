use Rattle.auto_ops.proofs.IntersectionLaws.{intersection_lassos}
use Rattle.auto_ops.proofs.laws.intersection_of_lassos.Goals as goal

pub returns : goal.returns
returns c = intersection_lassos
