use Rattle.cert_text.proofs.Reading.{found_by, only_by, fault_by, first_by}
use Rattle.cert_text.specs.CrossGrammar.{cross_reading}
use Rattle.cert_text.specs.CrossText.{CrossFormed, cross_text}
use Rattle.cert_text.proofs.CrossTextLemmas.{reading_back, reading_text}
use Rattle.cert_text.proofs.cross_read.read_cross.Goals as goal

pub returns : goal.returns
returns c =
    let bytes = c.args.bytes.now in
    let r = c.read_text.result in
    let t = c.read_text.ensures.reading in
    record {
      found = found_by CrossFormed cross_text cross_reading reading_back reading_text bytes r t;
      only = λ k w e. only_by CrossFormed cross_text cross_reading reading_back reading_text bytes r k t w e;
      fault = λ f e. fault_by (cross_reading bytes) r f t e;
      first = λ f e. first_by (cross_reading bytes) r f t e;
    }
