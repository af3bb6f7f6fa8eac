use Rattle.std.proofs.lemmas.Result.{err_from_is_err_and}
use Rattle.cert_value.specs.Tokens.{tokens_of}
use Rattle.cert_text.specs.declared.cross.Cross.{Cross}
use Rattle.cert_text.specs.CrossGrammar.{cross_heading_in}
use Rattle.cert_text.proofs.LinesLeftLemmas.{line_placed, line_none}
use Rattle.cert_text.proofs.cross_read.heading.Goals as goal

pub returns-in_err-line : goal.returns-in_err-line
returns-in_err-line c =
    let p = err_from_is_err_and c.from_residual.result c.from_residual.ensures.1 in
    rw (p.1, p.2) (line_none Cross cross_heading_in c.args.lines.now c.next.new.self c.in_err-line.field-0.0 c.in_err-line.ensures)

pub returns : goal.returns
returns c =
    line_placed Cross cross_heading_in c.args.lines.now c.next.new.self (tokens_of c.in_ok-line.line.now) c.at-number.result c.heading_in.result c.placed.result
    c.at-number.ensures c.in_ok-line.ensures c.heading_in.ensures c.placed.ensures
