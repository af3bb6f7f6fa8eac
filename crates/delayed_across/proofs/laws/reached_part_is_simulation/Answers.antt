use Rattle.delayed_across.proofs.PartLemmas.{reached_part_is}
use Rattle.delayed_across.proofs.laws.reached_part_is_simulation.Goals as goal

pub returns : goal.returns
returns c = reached_part_is
