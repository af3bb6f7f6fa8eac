use Rattle.backward_sim.proofs.GreatestLemmas.{greatest_reaches_the_end as law}
use Rattle.backward_sim.proofs.laws.greatest_reaches_the_end.Goals as goal

pub returns : goal.returns
returns c = law
