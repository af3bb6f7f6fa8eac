use Rattle.std.proofs.Common.{IfSome, Ok, ap, subst}
use Rattle.lasso_reading.specs.Reading.{ReadsJust}
use Rattle.lasso_reading.proofs.finding.lasso_read.Goals as goal

pub returns-in-Some-clause-rejected : goal.returns-in-Some-clause-rejected
returns-in-Some-clause-rejected c = λ _ u v reads.
    let P = c.in-Some.product in
    let just : ReadsJust c.args.automaton.now c.args.classes.now c.args.prefix.now c.args.turn.now P =
    subst (λ o. IfSome o (ReadsJust c.args.automaton.now c.args.classes.now c.args.prefix.now c.args.turn.now)) c.in-Some.is c.in_ok-product.ensures.reads in
    c.in_ok-lasso-in-Some.ensures.none (ap Ok c.in-None-2.is) u v ((just u v).1 reads)
