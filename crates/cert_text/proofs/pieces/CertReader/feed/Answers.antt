use Rattle.std.proofs.Common.{◌∙◌, ◌++◌, sym, ap, subst, arith, length-append, Err}
use Rattle.cert_text.specs.Pieces.{HasCertComeTo, TellsFirstCertFault}
use Rattle.cert_text.proofs.PieceLemmas.{taken_then}
use Rattle.cert_text.proofs.pieces.CertReader.feed.Goals as goal

pub returns-in-Ok-clause-read : goal.returns-in-Ok-clause-read
returns-in-Ok-clause-read c = λ bytes has short.
    let piece = c.args.piece.now in
    let (taken, none) = subst (λ p. HasCertComeTo p c.args.self.now.lines c.args.self.now.line.items bytes) c.in-Faultless.is has in
    let new = c.in-Ok.ensures.taken (bytes ++ piece) (taken_then c.args.self.now.lines bytes c.args.self.now.line.items piece taken) (omega (arith, length-append bytes piece, short)) none in
    subst (λ p. HasCertComeTo p c.take.new.self.lines c.take.new.self.line.items (bytes ++ piece)) (sym (c.in-Ok.ensures.progress ∙ c.in-Faultless.is)) new

pub returns-in-Err-Text-clause-read : goal.returns-in-Err-Text-clause-read
returns-in-Err-Text-clause-read c = λ bytes has short.
    let piece = c.args.piece.now in
    let (taken, none) = subst (λ p. HasCertComeTo p c.args.self.now.lines c.args.self.now.line.items bytes) c.in-Faultless.is has in
    let told = c.in-Err-Text.ensures.taken (bytes ++ piece) (taken_then c.args.self.now.lines bytes c.args.self.now.line.items piece taken) (omega (arith, length-append bytes piece, short)) none in
    let tells = subst (TellsFirstCertFault (bytes ++ piece)) c.in-Err-Text.field-0-is told in
    λ more. tells more ∙ sym (ap Err c.in-Err-Text.fault-is)
