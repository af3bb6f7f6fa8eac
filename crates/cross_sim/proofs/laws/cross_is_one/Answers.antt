use Rattle.cross_sim.proofs.WrittenLemmas.{cross_is_one as law}
use Rattle.cross_sim.proofs.laws.cross_is_one.Goals as goal

pub returns : goal.returns
returns c = law
