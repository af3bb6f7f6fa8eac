use Rattle.state_map.specs.Faults.{AcceptBelow}
use Rattle.state_map.proofs.checking.first_not_accepting.Given as goal

abbrev pub invariant-loop-state : goal.invariant-loop-state
invariant-loop-state l = AcceptBelow l.first l.small l.map l.state
