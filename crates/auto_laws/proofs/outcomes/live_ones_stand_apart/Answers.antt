use Rattle.auto_laws.proofs.OutcomeLemmas.{live_ones_stand_apart as law}
use Rattle.auto_laws.proofs.outcomes.live_ones_stand_apart.Goals as goal

pub returns : goal.returns
returns c = law
