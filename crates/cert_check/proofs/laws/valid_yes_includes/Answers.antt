use Rattle.cert_check.proofs.ClosedLemmas.{valid_yes as law}
use Rattle.cert_check.proofs.laws.valid_yes_includes.Goals as goal

pub returns : goal.returns
returns c = law
