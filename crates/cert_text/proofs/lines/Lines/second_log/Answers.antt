use Rattle.std.proofs.lemmas.Result.{err_from_is_err_and}
use Rattle.std.proofs.Common.{List, []}
use Rattle.cert_value.specs.declared.keywords.Keyword.TheVariants as keyword
use Rattle.cert_value.specs.declared.types.SecondStep.{SecondStep}
use Rattle.cert_line.specs.Lines.{number_in}
use Rattle.cert_text.specs.Grammar.{next_line, read_second_steps}
use Rattle.cert_text.proofs.LinesLeftLemmas.{then_reads, first_stops}
use Rattle.cert_text.proofs.lines.Lines.second_log.Goals as goal

pub returns-in_err-count : goal.returns-in_err-count
returns-in_err-count g c =
    let p = err_from_is_err_and c.from_residual.result c.from_residual.ensures.1 in
    rw (p.1, p.2)
    (first_stops {A = (List SecondStep)} (next_line (number_in keyword.Log2)) (λ next n. read_second_steps c.args.version c.args.mode n [] next) c.args.self.now c.number.new.self c.number.new.self c.in_err-count.field-0.0 c.in_err-count.ensures)

pub returns : goal.returns
returns g c =
    then_reads (next_line (number_in keyword.Log2)) (λ next n. read_second_steps c.args.version c.args.mode n [] next) c.args.self.now c.number.new.self c.second_steps.new.self c.in_ok-count.count c.second_steps.result c.in_ok-count.ensures c.second_steps.ensures
