use Rattle.cross_sim.proofs.CrossLemmas.{cross_includes as law}
use Rattle.cross_sim.proofs.laws.cross_includes.Goals as goal

pub returns : goal.returns
returns c = law
