use Rattle.map_laws.proofs.LetterLemmas.{included_over_classes as law}
use Rattle.map_laws.proofs.inclusion_over_classes.Goals as goal

pub returns : goal.returns
returns c = law
