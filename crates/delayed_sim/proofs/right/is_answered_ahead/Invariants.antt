use Rattle.delayed_sim.proofs.RightLemmas.{IsAnsweredUpto}
use Rattle.delayed_sim.proofs.right.is_answered_ahead.Given as goal

abbrev pub invariant-loop-more : goal.invariant-loop-more
invariant-loop-more l = IsAnsweredUpto l.automaton l.delayed.triples l.below l.ahead l.q l.step.label l.step.target l.more
