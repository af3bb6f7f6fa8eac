use Rattle.prune_pairs.proofs.OneLaws.{removable_pruned as law}
use Rattle.prune_pairs.proofs.laws.removable_are_pruned.Goals as goal

pub returns : goal.returns
returns c = law
