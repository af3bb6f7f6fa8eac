use Rattle.std.proofs.Common.{◌+◌, subst}
use Rattle.cert_value.specs.Tokens.{tokens_of}
use Rattle.cert_text.specs.Grammar.{lines_of}
use Rattle.cert_text.specs.LinesLeft.{Left, TakesLineOff}
use Rattle.cert_text.proofs.LinesLeftLemmas.{takes_line}
use Rattle.cert_text.proofs.lines.Lines.next.Goals as goal

pub returns-in-Some : goal.returns-in-Some
returns-in-Some g c =
    subst (λ (old : Left). TakesLineOff old (lines_of c.in-Some.rest.now, c.self.inside.number + 1) (tokens_of c.in-Some.line.now)) c.self.view_is
    (takes_line c.self.inside.rest.now c.in-Some.rest.now (tokens_of c.in-Some.line.now) c.self.inside.number c.in-Some.ensures.cut)
