use Rattle.auto_core.specs.Reach.{HasArc}
use Rattle.bit_rows.specs.Marking.{AreDone}
use Rattle.bit_rows.proofs.looping.mark_in.Given as goal

abbrev pub invariant-loop-at : goal.invariant-loop-at
invariant-loop-at l = AreDone (HasArc l.any l.count l.width) (HasArc l.flagged l.count l.width) l.count l.looping l.done_places l.at
