use Rattle.std.proofs.lemmas.Result.{IfOk-weaker}
use Rattle.auto_core.specs.Game.{Holds, Close}
use Rattle.auto_core.specs.Quotient.{AreClassesOf}
use Rattle.quotient.proofs.CountLemmas.{closed_reflexive, closed_transitive}
use Rattle.reduce_loop.proofs.MakingLemmas.{classes_as}
use Rattle.reduce_loop.proofs.joining.classes.Goals as goal

pub classes_of-requires-clause-reflexive : goal.classes_of-requires-clause-reflexive
classes_of-requires-clause-reflexive c = closed_reflexive c.args.rel.now c.in_ok-closed.closed c.in_ok-closed.ensures.closed

pub classes_of-requires-clause-transitive : goal.classes_of-requires-clause-transitive
classes_of-requires-clause-transitive c = closed_transitive c.args.rel.now c.in_ok-closed.closed c.in_ok-closed.ensures.closed

pub returns-clause-joined : goal.returns-clause-joined
returns-clause-joined c =
    let old = c.args.rel.now in
    let new = c.in_ok-closed.closed in
    IfOk-weaker c.classes_of.result (AreClassesOf new.size (Holds new.pairs)) (AreClassesOf old.size (Close (Holds old.pairs)))
    (λ classes are. classes_as old new c.in_ok-closed.ensures.closed classes are) c.classes_of.ensures
