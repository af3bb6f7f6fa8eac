use Rattle.std.proofs.Common.{arith}
use Rattle.delayed_game.proofs.SetLemmas.{ends_none, ends_more, ends_all}
use Rattle.delayed_game.proofs.before.mark_ends.Goals as goal

pub loop-right-init : goal.loop-right-init
loop-right-init c = (ends_none c.args.automaton.now c.args.ends.now c.args.made.now c.args.width, omega arith)

pub loop-right-preserved : goal.loop-right-preserved
loop-right-preserved c =
    let next = c.in-Some.ensures.found in
    let below = c.requires.ends c.in-Some.right next.here in
    (ends_more c.args.automaton.now c.args.ends.now c.args.made.now c.loop-right.made c.mark_before.new.made c.args.width c.loop-right.at c.in-Some.right c.loop-right.invariant.0 next c.mark_before.ensures, omega arith)

pub returns : goal.returns
returns c = ends_all c.args.automaton.now c.args.ends.now c.args.made.now c.loop-right.made c.args.width c.loop-right.at c.loop-right.invariant.0 c.in_default.ensures.none
