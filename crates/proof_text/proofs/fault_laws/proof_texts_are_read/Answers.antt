use Rattle.cert_text.proofs.TextLemmas.{is_read}
use Rattle.proof_text.proofs.ProofLemmas.{proofs}
use Rattle.proof_text.proofs.fault_laws.proof_texts_are_read.Goals as goal

pub returns : goal.returns
returns c = is_read proofs
