use Rattle.prune_pairs.proofs.PruneLaws.{pruning_same as law}
use Rattle.prune_pairs.proofs.laws.pruning_is_same.Goals as goal

pub returns : goal.returns
returns c = law
