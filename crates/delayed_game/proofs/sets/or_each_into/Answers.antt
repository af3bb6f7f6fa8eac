use Rattle.std.proofs.Common.{arith}
use Rattle.delayed_game.proofs.SetLemmas.{or_each}
use Rattle.delayed_game.proofs.sets.or_each_into.Goals as goal

pub returns : goal.returns
returns c =
    or_each c.args.into.now c.args.first.now c.args.second.now c.args.third.now c.args.fourth.now c.loop-i.into c.loop-i.auto.into c.requires.first c.requires.second c.requires.third c.requires.fourth
    (λ k k_in. c.loop-i.invariant.0 k (omega arith))
