use Rattle.useful_states.proofs.CycleLemmas.{AreTargetsTo}
use Rattle.useful_states.proofs.cycles.targets_of.Given as goal

abbrev pub invariant-loop-t : goal.invariant-loop-t
invariant-loop-t l = AreTargetsTo l.automaton l.t l.targets.items
