use Rattle.map_laws.proofs.BisimulationLemmas.{same_quotient as law}
use Rattle.map_laws.proofs.bisimulation_quotient_is_same.Goals as goal

pub returns : goal.returns
returns c = law
