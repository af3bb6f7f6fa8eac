use Rattle.lasso_accept.proofs.GuideLemmas.{IsFilled}
use Rattle.lasso_accept.proofs.guide.fill.Given as goal

abbrev pub invariant-loop-at : goal.invariant-loop-at
invariant-loop-at l = IsFilled l.automaton l.word l.width l.at l.fn.any l.fn.flagged l.any l.flagged
