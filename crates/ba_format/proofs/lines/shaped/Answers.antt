use Rattle.ba_format.proofs.LineLemmas.{shaped-cut}
use Rattle.ba_format.proofs.lines.shaped.Goals as goal

pub returns-in-Some : goal.returns-in-Some
returns-in-Some c =
    let cut = c.in-Some.ensures in
    shaped-cut c.args.line.now c.in-Some.label.now c.in-Some.rest.now c.transition_line.result cut.0 cut.1 cut.2 c.transition_line.ensures
