use Rattle.prune_pairs.proofs.OneLaws.{pruned_shorter as law}
use Rattle.prune_pairs.proofs.laws.pruned_is_shorter.Goals as goal

pub returns : goal.returns
returns c = law
