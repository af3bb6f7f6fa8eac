use Rattle.map_laws.proofs.LetterLemmas.{classes_accepted as law}
use Rattle.map_laws.proofs.classes_are_accepted.Goals as goal

pub returns : goal.returns
returns c = law
