use Rattle.std.proofs.Common.{◌<◌, ℕ}
use Rattle.log_check.specs.Closures.{IsJoinedInClass}
use Rattle.log_check.proofs.closures.joins_row.Given as goal

abbrev pub invariant-loop-q : goal.invariant-loop-q
invariant-loop-q l = (r : ℕ) → r < l.q → IsJoinedInClass l.classes l.rel l.p r
