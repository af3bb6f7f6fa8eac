use Rattle.delayed_sim.proofs.OneLemmas.{greatest_one}
use Rattle.delayed_sim.proofs.laws.greatest_is_one.Goals as goal

pub returns : goal.returns
returns c = greatest_one
