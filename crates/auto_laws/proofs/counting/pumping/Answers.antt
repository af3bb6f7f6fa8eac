use Rattle.auto_laws.proofs.PumpingLemmas.{pumping as accepted}
use Rattle.auto_laws.proofs.counting.pumping.Goals as goal

pub returns : goal.returns
returns c = accepted
