use Rattle.std.proofs.lemmas.Result.{err_from_is_err_and}
use Rattle.cert_value.specs.Tokens.{tokens_of}
use Rattle.cert_line.specs.Lines.{ascending_in}
use Rattle.cert_text.proofs.LinesLeftLemmas.{line_placed, line_none}
use Rattle.cert_text.proofs.lines.Lines.ascending.Goals as goal

pub returns-in_err-line : goal.returns-in_err-line
returns-in_err-line g c =
    let p = err_from_is_err_and c.from_residual.result c.from_residual.ensures.1 in
    rw (p.1, p.2) (line_none _ (ascending_in c.args.keyword c.args.tail) c.args.self.now c.next.new.self c.in_err-line.field-0.0 c.in_err-line.ensures)

pub returns : goal.returns
returns g c =
    line_placed _ (ascending_in c.args.keyword c.args.tail) c.args.self.now c.next.new.self (tokens_of c.in_ok-line.line.now) c.at-number.result c.ascending_in.result c.placed.result
    c.at-number.ensures c.in_ok-line.ensures c.ascending_in.ensures c.placed.ensures
