use Rattle.map_laws.proofs.LetterLemmas.{tell_the_same as law}
use Rattle.map_laws.proofs.classes_tell_the_same.Goals as goal

pub returns : goal.returns
returns c = law
