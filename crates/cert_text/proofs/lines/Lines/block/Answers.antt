use Rattle.std.proofs.lemmas.Result.{err_from_is_err_and}
use Rattle.std.proofs.Common.{List, [], Ok, Err}
use Rattle.cert_value.specs.declared.keywords.Keyword.TheVariants as keyword
use Rattle.cert_value.specs.declared.types.Row.{Row}
use Rattle.cert_value.specs.declared.types.RelBlock.{RelBlock}
use Rattle.cert_line.specs.Lines.{number_in}
use Rattle.cert_text.specs.Grammar.{next_line, read_rows}
use Rattle.cert_text.proofs.LinesLeftLemmas.{then_reads, first_stops, gives}
use Rattle.cert_text.proofs.lines.Lines.block.Goals as goal

abbrev made : List Row → RelBlock
made rows = record { rows = rows }

pub returns-in_err-count : goal.returns-in_err-count
returns-in_err-count g c =
    let p = err_from_is_err_and c.from_residual.result c.from_residual.ensures.1 in
    rw (p.1, p.2)
    (first_stops {A = RelBlock} (next_line (number_in keyword.Rel)) (λ next n. read_rows c.args.version n 0 [] (λ rows. next (made rows))) c.args.self.now c.number.new.self c.number.new.self c.in_err-count.field-0.0 c.in_err-count.ensures)

pub returns-in_err-rows : goal.returns-in_err-rows
returns-in_err-rows g c =
    let p = err_from_is_err_and c.from_residual-in_err-rows.result c.from_residual-in_err-rows.ensures.1 in
    rw (p.1, p.2)
    (then_reads {A = RelBlock} (next_line (number_in keyword.Rel)) (λ next n. read_rows c.args.version n 0 [] (λ rows. next (made rows))) c.args.self.now c.number.new.self c.rows.new.self c.in_ok-count.count (Err c.in_err-rows.field-0.0) c.in_ok-count.ensures
    (first_stops {A = RelBlock} (read_rows c.args.version c.in_ok-count.count 0 []) (λ next rows. next (made rows)) c.number.new.self c.rows.new.self c.rows.new.self c.in_err-rows.field-0.0 c.in_err-rows.ensures))

pub returns : goal.returns
returns g c =
    then_reads (next_line (number_in keyword.Rel)) (λ next n. read_rows c.args.version n 0 [] (λ rows. next (made rows))) c.args.self.now c.number.new.self c.rows.new.self c.in_ok-count.count (Ok (made c.in_ok-rows.rows)) c.in_ok-count.ensures
    (gives (read_rows c.args.version c.in_ok-count.count 0 []) made c.number.new.self c.rows.new.self c.in_ok-rows.rows c.in_ok-rows.ensures)
