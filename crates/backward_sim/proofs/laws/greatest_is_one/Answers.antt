use Rattle.backward_sim.proofs.GreatestLemmas.{greatest_is_one as law}
use Rattle.backward_sim.proofs.laws.greatest_is_one.Goals as goal

pub returns : goal.returns
returns c = law
