use Rattle.prune_pairs.proofs.OneLaws.{cut_one as law}
use Rattle.prune_pairs.proofs.laws.cut_is_one.Goals as goal

pub returns : goal.returns
returns c = law
