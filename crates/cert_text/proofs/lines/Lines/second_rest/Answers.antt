use Rattle.std.proofs.Common.{Ok, sym, subst}
use Rattle.std.proofs.lemmas.Result.{err_from_is_err_and}
use Rattle.cert_value.specs.declared.keywords.Keyword.TheVariants as keyword
use Rattle.cert_value.specs.declared.types.SecondStep.{SecondStep}
use Rattle.cert_value.specs.declared.types.SecondStep.TheVariants as second
use Rattle.cert_line.specs.declared.shapes.Tail.TheVariants as tail
use Rattle.cert_line.specs.declared.heads.SecondHead.{SecondHead}
use Rattle.cert_line.specs.Lines.{ascending_in}
use Rattle.cert_text.specs.Grammar.{next_line, read_second_rest}
use Rattle.cert_text.specs.LinesLeft.{ReadsOn}
use Rattle.cert_text.specs.contracts.lines.Lines.second_rest.{C-type}
use Rattle.cert_text.proofs.LinesLeftLemmas.{first_stops, gives}
use Rattle.cert_text.proofs.lines.Lines.second_rest.Goals as goal

pub returns-in_err-gone-in-Cut : goal.returns-in_err-gone-in-Cut
returns-in_err-gone-in-Cut g c =
    let p = err_from_is_err_and c.from_residual-in_err-gone-in-Cut.result c.from_residual-in_err-gone-in-Cut.ensures.1 in
    subst (λ (h : SecondHead). ReadsOn {C = C-type g.row.C} {A = SecondStep} (read_second_rest c.args.version h) c.args.self.now c.ascending.new.self c.from_residual-in_err-gone-in-Cut.result) (sym c.in-Cut.is)
    (rw (p.1, p.2)
    (first_stops {A = SecondStep} (next_line (ascending_in keyword.Gone tail.SomeNumbers)) (λ next gone. next (second.Cut gone)) c.args.self.now c.ascending.new.self c.ascending.new.self c.in_err-gone-in-Cut.field-0.0 c.in_err-gone-in-Cut.ensures))

pub returns-in_ok-gone-in-Cut : goal.returns-in_ok-gone-in-Cut
returns-in_ok-gone-in-Cut g c =
    subst (λ (h : SecondHead). ReadsOn {C = C-type g.row.C} {A = SecondStep} (read_second_rest c.args.version h) c.args.self.now c.ascending.new.self (Ok (second.Cut c.in_ok-gone-in-Cut.gone))) (sym c.in-Cut.is)
    (gives (next_line (ascending_in keyword.Gone tail.SomeNumbers)) (λ gone. second.Cut gone) c.args.self.now c.ascending.new.self c.in_ok-gone-in-Cut.gone c.in_ok-gone-in-Cut.ensures)
