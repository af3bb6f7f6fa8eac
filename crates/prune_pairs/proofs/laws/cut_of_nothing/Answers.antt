use Rattle.prune_pairs.proofs.OneLaws.{cut_nothing as law}
use Rattle.prune_pairs.proofs.laws.cut_of_nothing.Goals as goal

pub returns : goal.returns
returns c = law
