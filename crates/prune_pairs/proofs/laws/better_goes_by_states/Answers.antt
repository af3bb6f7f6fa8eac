use Rattle.prune_pairs.proofs.OneLaws.{better_goes as law}
use Rattle.prune_pairs.proofs.laws.better_goes_by_states.Goals as goal

pub returns : goal.returns
returns c = law
