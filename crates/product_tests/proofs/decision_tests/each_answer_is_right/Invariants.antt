use Rattle.std.proofs.Common.{◌≤◌}
use Rattle.product_tests.proofs.decision_tests.each_answer_is_right.Given as goal

abbrev pub invariant-loop-seed : goal.invariant-loop-seed
invariant-loop-seed g l = (l.included ≤ l.seed) × (l.apart ≤ l.seed)
