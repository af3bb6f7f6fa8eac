use Rattle.std.proofs.Common.{arith}
use Rattle.auto_core.proofs.Order.{ascends}
use Rattle.auto_core.proofs.tables.is_ascending.Goals as goal

pub returns : goal.returns
returns c = λ _. ascends c.args.transitions.now (λ k within. c.loop-i.invariant k (omega (arith, c.loop-i-test.false)))
