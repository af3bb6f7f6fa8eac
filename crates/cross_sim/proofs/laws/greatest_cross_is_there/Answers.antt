use Rattle.cross_sim.proofs.ThereLemmas.{greatest_cross_is_there as law}
use Rattle.cross_sim.proofs.laws.greatest_cross_is_there.Goals as goal

pub returns : goal.returns
returns c = law
