use Rattle.cross_sim.proofs.CheckLemmas.{break_one}
use Rattle.cross_sim.proofs.laws.cross_break_is_one.Goals as goal

pub returns : goal.returns
returns c = break_one
