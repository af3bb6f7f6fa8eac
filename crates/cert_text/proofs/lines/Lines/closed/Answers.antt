use Rattle.std.proofs.lemmas.Result.{err_from_is_err_and}
use Rattle.std.proofs.Common.{ℕ, List, [], Err, subst}
use Rattle.cert_text.specs.LinesLeft.{ReadsOn}
use Rattle.cert_text.specs.contracts.lines.Lines.closed.{C-type}
use Rattle.cert_value.specs.declared.keywords.Keyword.TheVariants as keyword
use Rattle.cert_value.specs.declared.types.RelBlock.{RelBlock}
use Rattle.cert_value.specs.declared.types.Element.{Element}
use Rattle.cert_value.specs.declared.types.StepLine.{StepLine}
use Rattle.cert_line.specs.declared.shapes.Tail.TheVariants as tail
use Rattle.cert_line.specs.Lines.{number_in, numbers_in}
use Rattle.cert_text.specs.declared.parts.Closed.{Closed}
use Rattle.cert_text.specs.Grammar.{next_line, read_block, read_elements, read_steps, read_cover, read_all_elements, read_closed}
use Rattle.cert_text.proofs.LinesLeftLemmas.{so_far, so_next, so_stop}
use Rattle.cert_text.proofs.lines.Lines.closed.Goals as goal

abbrev made : RelBlock → List Element → List ℕ → List StepLine → Closed
made order elements cover steps = record { order = order; elements = elements; cover = cover; steps = steps }

pub returns-in_err-order : goal.returns-in_err-order
returns-in_err-order g c =
    let p = err_from_is_err_and c.from_residual.result c.from_residual.ensures.1 in
    rw (p.1, p.2)
    (so_stop (read_closed c.args.version c.args.mode) (read_block c.args.version) (λ next order. read_all_elements c.args.mode order next) c.args.self.now c.args.self.now c.block.new.self c.block.new.self c.in_err-order.field-0.0 (so_far (read_closed c.args.version c.args.mode) c.args.self.now) c.in_err-order.ensures)

pub returns-in_err-elements : goal.returns-in_err-elements
returns-in_err-elements g c =
    let p = err_from_is_err_and c.from_residual-in_err-elements.result c.from_residual-in_err-elements.ensures.1 in
    rw (p.1, p.2)
    (so_stop (read_closed c.args.version c.args.mode) (λ next. next_line (number_in keyword.Elements) (λ n. read_elements c.args.mode n [] next)) (λ next elements. read_cover c.in_ok-order.order elements next) c.args.self.now c.block.new.self c.elements.new.self c.elements.new.self c.in_err-elements.field-0.0 (so_next (read_closed c.args.version c.args.mode) (read_block c.args.version) (λ next order. read_all_elements c.args.mode order next) c.args.self.now c.args.self.now c.block.new.self c.in_ok-order.order (so_far (read_closed c.args.version c.args.mode) c.args.self.now) c.in_ok-order.ensures) c.in_err-elements.ensures)

pub returns-in_err-cover : goal.returns-in_err-cover
returns-in_err-cover g c =
    let p = err_from_is_err_and c.from_residual-in_err-cover.result c.from_residual-in_err-cover.ensures.1 in
    rw (p.1, p.2)
    (so_stop (read_closed c.args.version c.args.mode) (next_line (numbers_in keyword.Cover tail.Numbers)) (λ next cover. read_steps 0 c.in_ok-elements.elements [] (λ steps. next (made c.in_ok-order.order c.in_ok-elements.elements cover steps))) c.args.self.now c.elements.new.self c.numbers.new.self c.numbers.new.self c.in_err-cover.field-0.0 (so_next (read_closed c.args.version c.args.mode) (λ next. next_line (number_in keyword.Elements) (λ n. read_elements c.args.mode n [] next)) (λ next elements. read_cover c.in_ok-order.order elements next) c.args.self.now c.block.new.self c.elements.new.self c.in_ok-elements.elements (so_next (read_closed c.args.version c.args.mode) (read_block c.args.version) (λ next order. read_all_elements c.args.mode order next) c.args.self.now c.args.self.now c.block.new.self c.in_ok-order.order (so_far (read_closed c.args.version c.args.mode) c.args.self.now) c.in_ok-order.ensures) c.in_ok-elements.ensures) c.in_err-cover.ensures)

pub returns-in_err-steps : goal.returns-in_err-steps
returns-in_err-steps g c =
    let p = err_from_is_err_and c.from_residual-in_err-steps.result c.from_residual-in_err-steps.ensures.1 in
    rw (p.1, p.2)
    (so_stop (read_closed c.args.version c.args.mode) (read_steps 0 c.in_ok-elements.elements []) (λ next steps. next (made c.in_ok-order.order c.in_ok-elements.elements c.in_ok-cover.cover steps)) c.args.self.now c.numbers.new.self c.steps.new.self c.steps.new.self c.in_err-steps.field-0.0 (so_next (read_closed c.args.version c.args.mode) (next_line (numbers_in keyword.Cover tail.Numbers)) (λ next cover. read_steps 0 c.in_ok-elements.elements [] (λ steps. next (made c.in_ok-order.order c.in_ok-elements.elements cover steps))) c.args.self.now c.elements.new.self c.numbers.new.self c.in_ok-cover.cover (so_next (read_closed c.args.version c.args.mode) (λ next. next_line (number_in keyword.Elements) (λ n. read_elements c.args.mode n [] next)) (λ next elements. read_cover c.in_ok-order.order elements next) c.args.self.now c.block.new.self c.elements.new.self c.in_ok-elements.elements (so_next (read_closed c.args.version c.args.mode) (read_block c.args.version) (λ next order. read_all_elements c.args.mode order next) c.args.self.now c.args.self.now c.block.new.self c.in_ok-order.order (so_far (read_closed c.args.version c.args.mode) c.args.self.now) c.in_ok-order.ensures) c.in_ok-elements.ensures) c.in_ok-cover.ensures) (subst (λ es. ReadsOn {C = C-type g.row.C} {A = List StepLine} (read_steps 0 es []) c.numbers.new.self c.steps.new.self (Err c.in_err-steps.field-0.0)) c.as_slice.ensures c.in_err-steps.ensures))

pub returns : goal.returns
returns g c =
    so_next (read_closed c.args.version c.args.mode) (read_steps 0 c.in_ok-elements.elements []) (λ next steps. next (made c.in_ok-order.order c.in_ok-elements.elements c.in_ok-cover.cover steps)) c.args.self.now c.numbers.new.self c.steps.new.self c.in_ok-steps.steps (so_next (read_closed c.args.version c.args.mode) (next_line (numbers_in keyword.Cover tail.Numbers)) (λ next cover. read_steps 0 c.in_ok-elements.elements [] (λ steps. next (made c.in_ok-order.order c.in_ok-elements.elements cover steps))) c.args.self.now c.elements.new.self c.numbers.new.self c.in_ok-cover.cover (so_next (read_closed c.args.version c.args.mode) (λ next. next_line (number_in keyword.Elements) (λ n. read_elements c.args.mode n [] next)) (λ next elements. read_cover c.in_ok-order.order elements next) c.args.self.now c.block.new.self c.elements.new.self c.in_ok-elements.elements (so_next (read_closed c.args.version c.args.mode) (read_block c.args.version) (λ next order. read_all_elements c.args.mode order next) c.args.self.now c.args.self.now c.block.new.self c.in_ok-order.order (so_far (read_closed c.args.version c.args.mode) c.args.self.now) c.in_ok-order.ensures) c.in_ok-elements.ensures) c.in_ok-cover.ensures) (rw c.as_slice.ensures at c.in_ok-steps.ensures)
