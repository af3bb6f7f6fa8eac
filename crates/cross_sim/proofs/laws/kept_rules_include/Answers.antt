use Rattle.cross_sim.proofs.CheckLemmas.{kept_rules_include}
use Rattle.cross_sim.proofs.laws.kept_rules_include.Goals as goal

pub returns : goal.returns
returns c = kept_rules_include
