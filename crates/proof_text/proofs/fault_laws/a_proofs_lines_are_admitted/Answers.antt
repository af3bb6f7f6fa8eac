use Rattle.cert_text.proofs.AdmittedLemmas.{own_lines_are_admitted}
use Rattle.proof_text.proofs.ProofLemmas.{proofs}
use Rattle.proof_text.proofs.fault_laws.a_proofs_lines_are_admitted.Goals as goal

pub returns : goal.returns
returns c = own_lines_are_admitted proofs
