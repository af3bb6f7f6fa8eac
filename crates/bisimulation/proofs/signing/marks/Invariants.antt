use Rattle.bisimulation.proofs.SignatureLemmas.{IsMarking}
use Rattle.bisimulation.proofs.signing.marks.Given as goal

abbrev pub invariant-loop-t : goal.invariant-loop-t
invariant-loop-t l = IsMarking l.automaton l.of l.state l.initial.t l.t l.made.items
