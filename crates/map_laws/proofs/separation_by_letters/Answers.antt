use Rattle.map_laws.proofs.LetterLemmas.{separated_by_letters as law}
use Rattle.map_laws.proofs.separation_by_letters.Goals as goal

pub returns : goal.returns
returns c = law
