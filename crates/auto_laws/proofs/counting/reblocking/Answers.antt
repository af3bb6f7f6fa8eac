use Rattle.auto_laws.proofs.PumpingLemmas.{reblock}
use Rattle.auto_laws.proofs.counting.reblocking.Goals as goal

pub returns : goal.returns
returns c = reblock
