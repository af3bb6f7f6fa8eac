use Rattle.std.proofs.Common.{arith}
use Rattle.auto_core.proofs.BitLemmas.{or_rows}
use Rattle.auto_core.proofs.rows.add_bits.Goals as goal

pub returns : goal.returns
returns c =
    or_rows c.args.into.now c.args.from.now c.loop-i.into c.loop-i.auto.into c.requires
    (λ k k_in. c.loop-i.invariant.0 k (omega arith))
