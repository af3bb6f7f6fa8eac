use Rattle.map_laws.proofs.BisimulationLemmas.{quotient_carries as law}
use Rattle.map_laws.proofs.quotient_carries_over.Goals as goal

pub returns : goal.returns
returns c = law
