use Rattle.cert_text.proofs.AdmittedLemmas.{truncated_just_where}
use Rattle.proof_text.proofs.ProofLemmas.{proofs}
use Rattle.proof_text.proofs.fault_laws.proof_truncated_where_no_line_is_refused.Goals as goal

pub returns : goal.returns
returns c = truncated_just_where proofs
