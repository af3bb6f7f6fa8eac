use Rattle.prune_pairs.proofs.OneLaws.{removable_one as law}
use Rattle.prune_pairs.proofs.laws.removable_is_one.Goals as goal

pub returns : goal.returns
returns c = law
