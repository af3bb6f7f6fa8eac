use Rattle.cert_text.proofs.EndLemmas.{more_is_trailing}
use Rattle.proof_text.proofs.ProofLemmas.{proofs}
use Rattle.proof_text.proofs.fault_laws.more_after_the_proof_text_is_trailing.Goals as goal

pub returns : goal.returns
returns c = more_is_trailing proofs
