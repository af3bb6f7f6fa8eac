use Rattle.prune_pairs.proofs.OneLaws.{cut_shorter as law}
use Rattle.prune_pairs.proofs.laws.cut_is_shorter.Goals as goal

pub returns : goal.returns
returns c = law
