use Rattle.lasso_accept.proofs.RunLemmas.{IsTurning}
use Rattle.lasso_accept.proofs.runs.take_turns.Given as goal

abbrev pub invariant-loop-left : goal.invariant-loop-left
invariant-loop-left l = IsTurning l.automaton l.turn l.width l.turns l.table l.start l.fn.places l.left l.state l.places
