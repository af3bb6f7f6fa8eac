use Rattle.auto_ops.proofs.ThereLemmas.{intersection_there}
use Rattle.auto_ops.proofs.laws.intersection_is_there.Goals as goal

pub returns : goal.returns
returns c = intersection_there
