use Rattle.std.proofs.Common.{◌≤◌}
use Rattle.product_tests.proofs.lasso_tests.lassos_are_read.Given as goal

abbrev pub invariant-loop-seed : goal.invariant-loop-seed
invariant-loop-seed g l = (l.accepted ≤ l.seed) × (l.rejected ≤ l.seed)
