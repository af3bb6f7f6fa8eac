use Rattle.cert_text.proofs.AdmittedLemmas.{trailing_follows_text}
use Rattle.proof_text.proofs.ProofLemmas.{proofs}
use Rattle.proof_text.proofs.fault_laws.trailing_follows_a_proof_text.Goals as goal

pub returns : goal.returns
returns c = trailing_follows_text proofs
