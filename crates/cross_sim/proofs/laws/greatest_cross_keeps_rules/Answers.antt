use Rattle.cross_sim.proofs.WrittenLemmas.{greatest_cross_keeps_rules as law}
use Rattle.cross_sim.proofs.laws.greatest_cross_keeps_rules.Goals as goal

pub returns : goal.returns
returns c = law
