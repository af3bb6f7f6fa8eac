use Rattle.lasso_accept.proofs.GatherLemmas.{HasGathered}
use Rattle.lasso_accept.proofs.planes.gather.Given as goal

abbrev pub invariant-loop-t : goal.invariant-loop-t
invariant-loop-t l =
    HasGathered l.automaton l.state l.width l.initial.t l.t l.any l.any l.fn.new_any l.new_any
    × HasGathered l.automaton l.state l.width l.initial.t l.t l.any l.flagged l.fn.new_flagged l.new_flagged
