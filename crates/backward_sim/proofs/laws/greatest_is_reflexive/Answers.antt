use Rattle.backward_sim.proofs.GreatestLemmas.{greatest_is_reflexive as law}
use Rattle.backward_sim.proofs.laws.greatest_is_reflexive.Goals as goal

pub returns : goal.returns
returns c = law
