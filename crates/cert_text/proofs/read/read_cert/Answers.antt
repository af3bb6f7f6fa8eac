use Rattle.std.proofs.Common.{[], arith}
use Rattle.cert_text.proofs.read.read_cert.Goals as goal

pub returns-in-Ok : goal.returns-in-Ok
returns-in-Ok c =
    let bytes = c.args.bytes.now in
    let has = c.in-Ok.ensures.read [] c.empty-reader.ensures (omega (arith, c.requires)) in
    record {
      found = c.finish.ensures.found bytes has;
      only = λ k w e. c.finish.ensures.only bytes has k w e;
      fault = λ f e. c.finish.ensures.fault bytes has f e;
      first = λ f e. c.finish.ensures.first bytes has f e;
    }
