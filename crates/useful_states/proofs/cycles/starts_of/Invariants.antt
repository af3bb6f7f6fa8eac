use Rattle.useful_states.proofs.CycleLemmas.{AreSpansTo}
use Rattle.useful_states.proofs.cycles.starts_of.Given as goal

abbrev pub invariant-loop-state : goal.invariant-loop-state
invariant-loop-state l = AreSpansTo l.automaton l.state l.starts.items
