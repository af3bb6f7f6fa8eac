use Rattle.cert_text.proofs.PlaceLemmas.{begin_none}
use Rattle.proof_text.proofs.ProofLemmas.{proofs}
use Rattle.proof_text.proofs.fault_laws.lines_up_to_the_fault_begin_no_proof_text.Goals as goal

pub returns : goal.returns
returns c = begin_none proofs
