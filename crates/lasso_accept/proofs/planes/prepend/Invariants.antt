use Rattle.lasso_accept.proofs.PlaneLemmas.{HasPrepended}
use Rattle.lasso_accept.proofs.planes.prepend.Given as goal

abbrev pub invariant-loop-state : goal.invariant-loop-state
invariant-loop-state l =
    HasPrepended l.automaton l.label l.width l.state l.any l.any l.new_any
    × HasPrepended l.automaton l.label l.width l.state l.any l.flagged l.new_flagged
