use Rattle.lasso_accept.proofs.GuideLemmas.{HasSpan}
use Rattle.lasso_accept.proofs.guide.write_span.Given as goal

abbrev pub invariant-loop-state : goal.invariant-loop-state
invariant-loop-state l = HasSpan l.automaton l.label l.width l.at l.begin l.state l.marked l.plain l.fn.table l.table
