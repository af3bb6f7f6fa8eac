use Rattle.std.proofs.Common.{◌∙◌, [], sym, ap, subst, append-nil}
use Rattle.ba_format.specs.Cut.{IsUnfinished}
use Rattle.cert_text.specs.Grammar.{reading}
use Rattle.cert_text.specs.Pieces.{AreCertLinesTaken, HasCertComeTo}
use Rattle.cert_text.proofs.pieces.CertReader.told.Goals as goal

pub returns-in-Faultless-clause-told : goal.returns-in-Faultless-clause-told
returns-in-Faultless-clause-told c = λ bytes has.
    let self = c.args.self in
    let (taken, none) = subst (λ p. HasCertComeTo p self.lines self.line.items bytes) c.in-Faultless.is has in
    let is = c.as_slice.ensures.value in
    c.end.ensures bytes (subst (AreCertLinesTaken self.lines bytes) (sym is) taken) (subst IsUnfinished (sym is) none)

pub returns-in-Faulty-clause-told : goal.returns-in-Faulty-clause-told
returns-in-Faulty-clause-told c = λ bytes has.
    let first = subst (λ p. HasCertComeTo p c.args.self.lines c.args.self.line.items bytes) c.in-Faulty.is has in
    ap reading (sym (append-nil bytes)) ∙ first []
