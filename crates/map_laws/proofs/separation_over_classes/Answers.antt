use Rattle.map_laws.proofs.LetterLemmas.{separated_over_classes as law}
use Rattle.map_laws.proofs.separation_over_classes.Goals as goal

pub returns : goal.returns
returns c = law
