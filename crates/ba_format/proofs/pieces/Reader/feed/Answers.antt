use Rattle.std.proofs.Common.{◌∙◌, ◌++◌, sym, ap, subst, arith, Some}
use Rattle.std.proofs.lemmas.List.{length-append}
use Rattle.ba_format.specs.Faults.{fault_of}
use Rattle.ba_format.specs.Pieces.{HasComeTo, TellsFirstFault}
use Rattle.ba_format.proofs.PieceLemmas.{taken_then}
use Rattle.ba_format.proofs.pieces.Reader.feed.Goals as goal

pub returns-in-Ok-clause-read : goal.returns-in-Ok-clause-read
returns-in-Ok-clause-read c = λ limits bytes has short.
    let piece = c.args.piece.now in
    let (same, taken, none) = subst (λ p. HasComeTo p c.args.self.now.lines c.args.self.now.line.items limits bytes) c.in-Faultless.is has in
    let (taken', none') = c.in-Ok.ensures.taken (bytes ++ piece) (taken_then c.args.self.now.lines bytes c.args.self.now.line.items piece taken) (omega (arith, length-append bytes piece, short)) none in
    subst (λ p. HasComeTo p c.take.new.self.lines c.take.new.self.line.items limits (bytes ++ piece)) (sym (c.in-Ok.ensures.progress ∙ c.in-Faultless.is)) (c.in-Ok.ensures.limits ∙ same, taken', none')

pub returns-in-Err-Ba-clause-read : goal.returns-in-Err-Ba-clause-read
returns-in-Err-Ba-clause-read c = λ limits bytes has short.
    let piece = c.args.piece.now in
    let (same, taken, none) = subst (λ p. HasComeTo p c.args.self.now.lines c.args.self.now.line.items limits bytes) c.in-Faultless.is has in
    let told = c.in-Err-Ba.ensures.taken (bytes ++ piece) (taken_then c.args.self.now.lines bytes c.args.self.now.line.items piece taken) (omega (arith, length-append bytes piece, short)) none in
    let tells = subst (TellsFirstFault (bytes ++ piece) c.args.self.now.lines.limits) c.in-Err-Ba.field-0-is told in
    λ more. ap (fault_of ((bytes ++ piece) ++ more)) (sym same) ∙ tells more ∙ sym (ap Some c.in-Err-Ba.fault-is)
