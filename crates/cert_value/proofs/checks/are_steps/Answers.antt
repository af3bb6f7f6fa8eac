use Rattle.std.proofs.Common.{drop, arith, sym, ◌∙◌}
use Rattle.std.proofs.lemmas.List.{at_drop_all}
use Rattle.cert_value.specs.WellFormed.{are_steps}
use Rattle.cert_value.proofs.CheckLemmas.{steps_end}
use Rattle.cert_value.proofs.checks.are_steps.Goals as goal

pub returns : goal.returns
returns c =
    let es = c.args.elements.now in
    let steps = c.args.steps.now in
    let n = c.loop-number.number in
    let done = c.loop-number.done in
    sym (steps_end steps n done c.loop-number.invariant.1)
    ∙ sym (at_drop_all (λ rest. are_steps n rest (drop done steps)) es n (omega arith))
    ∙ c.loop-number.invariant.0
