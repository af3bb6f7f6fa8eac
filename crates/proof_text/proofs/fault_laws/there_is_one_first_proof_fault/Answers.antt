use Rattle.cert_text.proofs.TextLemmas.{one_fault}
use Rattle.proof_text.specs.ProofGrammar.{proof_reading}
use Rattle.proof_text.proofs.fault_laws.there_is_one_first_proof_fault.Goals as goal

pub returns : goal.returns
returns c = λ bytes. one_fault (proof_reading bytes)
