use Rattle.std.proofs.Common.{◌<◌, ℕ}
use Rattle.log_check.specs.Closures.{IsRowJoined}
use Rattle.log_check.proofs.closures.joins_members.Given as goal

abbrev pub invariant-loop-p : goal.invariant-loop-p
invariant-loop-p l = (r : ℕ) → r < l.p → IsRowJoined l.classes l.rel l.rel.size r
