use Rattle.lasso_accept.proofs.WalkLemmas.{IsWalked}
use Rattle.lasso_accept.proofs.spelling.walk.Given as goal

abbrev pub invariant-loop-at : goal.invariant-loop-at
invariant-loop-at l = IsWalked l.automaton l.word l.width l.any l.flagged l.start l.asked l.fn.places l.at l.state l.wanted l.places
