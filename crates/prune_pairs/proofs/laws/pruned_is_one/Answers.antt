use Rattle.prune_pairs.proofs.OneLaws.{pruned_one as law}
use Rattle.prune_pairs.proofs.laws.pruned_is_one.Goals as goal

pub returns : goal.returns
returns c = law
