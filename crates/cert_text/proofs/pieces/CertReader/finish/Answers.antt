use Rattle.cert_text.proofs.Theorem.{found_of, only_of, fault_of, first_of}
use Rattle.cert_text.proofs.pieces.CertReader.finish.Goals as goal

pub returns : goal.returns
returns c =
    let r = c.told.result in
    let t = c.told.ensures.told in
    record {
      found = λ bytes has. found_of bytes r (t bytes has);
      only = λ bytes has k w e. only_of bytes r k (t bytes has) w e;
      fault = λ bytes has f e. fault_of bytes r f (t bytes has) e;
      first = λ bytes has f e. first_of bytes r f (t bytes has) e;
      refused = c.told.ensures.refused;
    }
