use Rattle.cert_check.proofs.ClosedLemmas.{valid_no_by_word as law}
use Rattle.cert_check.proofs.laws.valid_no_separates_by_word.Goals as goal

pub returns : goal.returns
returns c = law
