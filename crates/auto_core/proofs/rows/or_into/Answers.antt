use Rattle.std.proofs.Common.{arith}
use Rattle.auto_core.proofs.rows.or_into.Goals as goal

pub returns : goal.returns
returns c = λ k k_in. c.loop-i.invariant.0 k (omega arith)
