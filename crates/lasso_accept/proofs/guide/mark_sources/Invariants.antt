use Rattle.lasso_accept.proofs.GuideLemmas.{HasMarked}
use Rattle.lasso_accept.proofs.guide.mark_sources.Given as goal

abbrev pub invariant-loop-number : goal.invariant-loop-number
invariant-loop-number l = HasMarked l.automaton l.label l.width l.at l.number-index l.number-items l.fn.table l.table
