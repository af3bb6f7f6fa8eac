use Rattle.auto_laws.proofs.OutcomeLemmas.{live_ones_are_enough as law}
use Rattle.auto_laws.proofs.outcomes.live_ones_are_enough.Goals as goal

pub returns : goal.returns
returns c = law
