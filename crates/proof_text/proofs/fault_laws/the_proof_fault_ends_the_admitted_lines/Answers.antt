use Rattle.cert_text.proofs.AdmittedLemmas.{fault_ends_admitted}
use Rattle.proof_text.proofs.ProofLemmas.{proofs}
use Rattle.proof_text.proofs.fault_laws.the_proof_fault_ends_the_admitted_lines.Goals as goal

pub returns : goal.returns
returns c = fault_ends_admitted proofs
