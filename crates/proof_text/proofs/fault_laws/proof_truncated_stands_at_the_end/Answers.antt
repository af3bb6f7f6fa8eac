use Rattle.cert_text.proofs.AdmittedLemmas.{truncated_at_the_end}
use Rattle.proof_text.proofs.ProofLemmas.{proofs}
use Rattle.proof_text.proofs.fault_laws.proof_truncated_stands_at_the_end.Goals as goal

pub returns : goal.returns
returns c = truncated_at_the_end proofs
