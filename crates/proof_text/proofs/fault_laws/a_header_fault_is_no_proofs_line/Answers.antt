use Rattle.cert_text.proofs.HeaderLemmas.{header_just_where}
use Rattle.proof_text.specs.ProofGrammar.{proof_heading_in, read_proof_sizes}
use Rattle.proof_text.proofs.ProofHeads.{proof_heads, proof_heading_refuses}
use Rattle.proof_text.proofs.ProofLemmas.{proofs}
use Rattle.proof_text.proofs.fault_laws.a_header_fault_is_no_proofs_line.Goals as goal

pub returns : goal.returns
returns c = header_just_where proof_heading_in read_proof_sizes proofs proof_heads proof_heading_refuses
