use Rattle.proof_text.proofs.ProofTextLemmas.{one_text}
use Rattle.proof_text.proofs.laws.one_proof_text.Goals as goal

pub returns : goal.returns
returns c = one_text
