use Rattle.map_laws.proofs.LetterLemmas.{letters_found as law}
use Rattle.map_laws.proofs.letters_are_found.Goals as goal

pub returns : goal.returns
returns c = law
