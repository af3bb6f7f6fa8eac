use Rattle.proof_check.proofs.OneLemmas.{none_breaks as law}
use Rattle.proof_check.proofs.laws.none_breaks_in_kept_proof.Goals as goal

pub returns : goal.returns
returns c = law
