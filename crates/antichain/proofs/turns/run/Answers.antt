use Rattle.std.proofs.Common.{◌≡◌, [], length, vec_len, subst, arith}
use Rattle.auto_core.specs.PairOutcome.{pair_rules}
use Rattle.antichain.specs.declared.parts.Fate.TheVariants as fates
use Rattle.antichain.specs.declared.family.Family.{Family}
use Rattle.antichain.specs.Kept.{HasCome}
use Rattle.antichain.proofs.TurnLemmas.{has_ended}
use Rattle.antichain.proofs.turns.run.Goals as goal

pub loop-turn-init : goal.loop-turn-init
loop-turn-init c =
    record {
      sets = c.in_ok-sets.ensures c.args.second.now c.args.order.now.pairs;
      come = subst (λ k. HasCome c.args.first.now c.args.second.now c.args.order.now.pairs c.args.limit c.args.family.now c.try_start.new.family k
          (pair_rules c.args.first.now c.args.second.now c.args.order.now.pairs).starts [] 0 0) c.in-GoesOn.is c.in_ok-fate.ensures;
      reached = omega arith;
    }

pub returns-clause-ended : goal.returns-clause-ended
returns-clause-ended c =
    let now : Family = c.loop-turn.family in
    let past = c.loop-turn-test.false in
    let count = c.len.ensures in
    let items : vec_len now.held ≡ length now.held.items = now.held.ok.0 in
    has_ended c.args.first.now c.args.second.now c.args.order.now.pairs c.args.limit c.args.family.now now fates.GoesOn c.loop-turn.turn c.requires.none
    (λ e. omega arith) c.loop-turn.invariant.come
