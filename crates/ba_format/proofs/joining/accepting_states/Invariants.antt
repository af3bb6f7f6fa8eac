use Rattle.ba_format.proofs.JoinLemmas.{Gathered}
use Rattle.ba_format.proofs.joining.accepting_states.Given as goal

abbrev pub invariant-loop-state : goal.invariant-loop-state
invariant-loop-state l = Gathered l.auto'.accepting l.states.items l.state
