use Rattle.proof_check.proofs.OneLemmas.{one_breaks as law}
use Rattle.proof_check.proofs.laws.one_proof_rule_breaks.Goals as goal

pub returns : goal.returns
returns c = law
