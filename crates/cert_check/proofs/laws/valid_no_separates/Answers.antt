use Rattle.cert_check.proofs.ClosedLemmas.{valid_no as law}
use Rattle.cert_check.proofs.laws.valid_no_separates.Goals as goal

pub returns : goal.returns
returns c = law
