use Rattle.std.proofs.Common.{◌≤◌, arith}
use Rattle.auto_core.specs.Reach.{HasArc}
use Rattle.bit_rows.proofs.LoopLemmas.{all_done}
use Rattle.bit_rows.proofs.looping.mark_in.Goals as goal

pub returns : goal.returns
returns c =
    let over : c.args.count ≤ c.loop-at.at = omega arith in
    all_done (HasArc c.args.any.now c.args.count c.args.width) (HasArc c.args.flagged.now c.args.count c.args.width) c.args.count c.loop-at.at c.loop-at.looping c.loop-at.done_places over
    (λ p q arc. arc.0) c.loop-at.invariant
