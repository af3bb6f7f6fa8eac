use Rattle.std.proofs.Common.{◌<◌, ℕ, Contains}
use Rattle.log_check.proofs.keeping.is_within.Given as goal

abbrev pub invariant-loop-state : goal.invariant-loop-state
invariant-loop-state l = (q : ℕ) → q < l.state → Contains l.one.members q → Contains l.other.members q
