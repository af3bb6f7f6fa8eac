use Rattle.map_laws.proofs.MapLemmas.{carried_over as law}
use Rattle.map_laws.proofs.carried_over_is_included.Goals as goal

pub returns : goal.returns
returns c = law
