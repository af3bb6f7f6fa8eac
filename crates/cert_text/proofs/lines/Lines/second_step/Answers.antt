use Rattle.std.proofs.lemmas.Result.{err_from_is_err_and}
use Rattle.cert_value.specs.declared.types.SecondStep.{SecondStep}
use Rattle.cert_line.specs.Lines.{second_head_in}
use Rattle.cert_text.specs.Grammar.{next_line, read_second_rest}
use Rattle.cert_text.proofs.LinesLeftLemmas.{then_reads, first_stops}
use Rattle.cert_text.proofs.lines.Lines.second_step.Goals as goal

pub returns-in_err-head : goal.returns-in_err-head
returns-in_err-head g c =
    let p = err_from_is_err_and c.from_residual.result c.from_residual.ensures.1 in
    rw (p.1, p.2)
    (first_stops {A = SecondStep} (next_line (second_head_in c.args.version c.args.mode)) (λ next head. read_second_rest c.args.version head next) c.args.self.now c.second_head.new.self c.second_head.new.self c.in_err-head.field-0.0 c.in_err-head.ensures)

pub returns : goal.returns
returns g c =
    then_reads (next_line (second_head_in c.args.version c.args.mode)) (λ next head. read_second_rest c.args.version head next) c.args.self.now c.second_head.new.self c.second_rest.new.self c.in_ok-head.head c.second_rest.result c.in_ok-head.ensures c.second_rest.ensures
