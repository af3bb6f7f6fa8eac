use Rattle.prune_pairs.proofs.PruneLaws.{pruned_same as law}
use Rattle.prune_pairs.proofs.laws.pruned_is_same.Goals as goal

pub returns : goal.returns
returns c = law
