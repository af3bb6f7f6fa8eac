use Rattle.state_map.specs.Faults.{AreStatesBelow}
use Rattle.state_map.proofs.checking.first_no_state.Given as goal

abbrev pub invariant-loop-state : goal.invariant-loop-state
invariant-loop-state l = AreStatesBelow l.small l.map l.state
