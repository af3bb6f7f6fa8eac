use Rattle.map_laws.proofs.MapLemmas.{images_accepted as law}
use Rattle.map_laws.proofs.images_are_accepted.Goals as goal

pub returns : goal.returns
returns c = law
