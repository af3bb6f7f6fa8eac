use Rattle.std.proofs.Common.{sym, subst}
use Rattle.cert_text.specs.Told.{Told}
use Rattle.cert_text.proofs.PieceLemmas.{taken_over}
use Rattle.cert_text.proofs.pieces.Lines.end.Goals as goal

pub returns : goal.returns
returns c = λ text u none. subst (λ o. Told o c.at_end.result) (sym (taken_over c.args.self text c.args.line.now u none)) c.at_end.ensures
