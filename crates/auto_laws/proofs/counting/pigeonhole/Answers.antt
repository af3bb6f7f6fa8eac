use Rattle.auto_laws.proofs.PumpingLemmas.{pigeonhole as two_places}
use Rattle.auto_laws.proofs.counting.pigeonhole.Goals as goal

pub returns : goal.returns
returns c = two_places
