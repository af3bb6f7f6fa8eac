use Rattle.delayed_across.proofs.RefusalLemmas.{simulation_is_not_refused}
use Rattle.delayed_across.proofs.laws.simulation_is_not_refused.Goals as goal

pub returns : goal.returns
returns c = simulation_is_not_refused
