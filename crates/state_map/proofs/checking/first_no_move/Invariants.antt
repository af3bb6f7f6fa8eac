use Rattle.state_map.specs.Faults.{HaveImagesBelow}
use Rattle.state_map.proofs.checking.first_no_move.Given as goal

abbrev pub invariant-loop-number : goal.invariant-loop-number
invariant-loop-number l = HaveImagesBelow l.first l.small l.map l.number
