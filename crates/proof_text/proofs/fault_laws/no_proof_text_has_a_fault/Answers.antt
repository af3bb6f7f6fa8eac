use Rattle.cert_text.proofs.TextLemmas.{has_no_fault}
use Rattle.proof_text.proofs.ProofLemmas.{proofs}
use Rattle.proof_text.proofs.fault_laws.no_proof_text_has_a_fault.Goals as goal

pub returns : goal.returns
returns c = has_no_fault proofs
