use Rattle.cert_text.proofs.PlaceLemmas.{stands_later}
use Rattle.proof_text.proofs.ProofLemmas.{proofs}
use Rattle.proof_text.proofs.fault_laws.fault_stands_after_a_proofs_lines.Goals as goal

pub returns : goal.returns
returns c = stands_later proofs
