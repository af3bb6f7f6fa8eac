use Rattle.auto_laws.proofs.OneLetterLemmas.{one_letter_is_pairs as law}
use Rattle.auto_laws.proofs.greatest.one_letter_is_pairs.Goals as goal

pub returns : goal.returns
returns c = law
