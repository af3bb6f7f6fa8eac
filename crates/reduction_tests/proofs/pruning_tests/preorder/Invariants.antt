use Rattle.std.proofs.Common.{◌≡◌}
use Rattle.reduction_tests.proofs.pruning_tests.preorder.Given as goal

abbrev pub invariant-loop-at : goal.invariant-loop-at
invariant-loop-at l = l.rel.size ≡ l.states
