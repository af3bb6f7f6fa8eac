use Rattle.cross_sim.proofs.CheckLemmas.{none_breaks}
use Rattle.cross_sim.proofs.laws.none_breaks_where_kept.Goals as goal

pub returns : goal.returns
returns c = none_breaks
