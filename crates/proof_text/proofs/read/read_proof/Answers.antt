use Rattle.cert_text.proofs.Reading.{found_by, only_by, fault_by, first_by}
use Rattle.proof_text.specs.ProofText.{ProofFormed, proof_text}
use Rattle.proof_text.specs.ProofGrammar.{proof_reading}
use Rattle.proof_text.proofs.ProofTextLemmas.{reading_back, reading_text}
use Rattle.proof_text.proofs.read.read_proof.Goals as goal

pub returns : goal.returns
returns c =
    let bytes = c.args.bytes.now in
    let r = c.read_text.result in
    let t = c.read_text.ensures.reading in
    record {
      found = found_by ProofFormed proof_text proof_reading reading_back reading_text bytes r t;
      only = λ k w e. only_by ProofFormed proof_text proof_reading reading_back reading_text bytes r k t w e;
      fault = λ f e. fault_by (proof_reading bytes) r f t e;
      first = λ f e. first_by (proof_reading bytes) r f t e;
    }
