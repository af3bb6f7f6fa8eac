use Rattle.proof_check.proofs.EvidenceLemmas.{kept_yes as law}
use Rattle.proof_check.proofs.laws.kept_yes_includes.Goals as goal

pub returns : goal.returns
returns c = law
