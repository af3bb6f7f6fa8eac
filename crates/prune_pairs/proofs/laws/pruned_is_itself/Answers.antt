use Rattle.prune_pairs.proofs.OneLaws.{pruned_itself as law}
use Rattle.prune_pairs.proofs.laws.pruned_is_itself.Goals as goal

pub returns : goal.returns
returns c = law
