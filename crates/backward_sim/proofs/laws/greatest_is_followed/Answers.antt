use Rattle.backward_sim.proofs.GreatestLemmas.{greatest_is_followed as law}
use Rattle.backward_sim.proofs.laws.greatest_is_followed.Goals as goal

pub returns : goal.returns
returns c = law
