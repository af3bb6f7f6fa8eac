use Rattle.proof_check.proofs.EvidenceLemmas.{kept_no as law}
use Rattle.proof_check.proofs.laws.kept_no_separates.Goals as goal

pub returns : goal.returns
returns c = law
