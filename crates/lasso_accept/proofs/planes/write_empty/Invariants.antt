use Rattle.lasso_accept.proofs.PlaneLemmas.{IsDiagonal}
use Rattle.lasso_accept.proofs.planes.write_empty.Given as goal

abbrev pub invariant-loop-state : goal.invariant-loop-state
invariant-loop-state l = IsDiagonal l.width l.state l.any
