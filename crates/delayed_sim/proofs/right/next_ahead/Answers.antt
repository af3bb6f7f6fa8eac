use Rattle.std.proofs.Common.{◌≡◌, ◌<◌, length, sym, ap, ◌∙◌, arith, take, drop, ◌++◌, ◌∷◌, []}
use Rattle.std.proofs.lemmas.List.{take_all, length-set}
use Rattle.delayed_sim.proofs.AheadLemmas.{next_more, length_announced}
use Rattle.delayed_sim.proofs.right.next_ahead.Goals as goal

pub loop-at-preserved : goal.loop-at-preserved
loop-at-preserved c =
    let three : length c.loop-at.next ≡ 3 = c.loop-at.invariant.1 in
    let in_three : c.loop-at.at < length c.loop-at.next = omega (arith, c.loop-at-test.true, c.requires) in (
      next_more c.loop-at.next c.args.ahead.now c.args.more c.loop-at.at c.letter_after.result c.loop-at-test.true in_three c.letter_after.ensures c.loop-at.invariant.0,
      length-set c.loop-at.next c.loop-at.at c.letter_after.result ∙ three,
    )

pub returns : goal.returns
returns c =
    let b = c.args.ahead.now in
    let end : c.loop-at.at ≡ length b = omega (arith, c.loop-at-test.false, c.loop-at.auto.at-end) in
    ap (λ k. take k c.loop-at.next) (sym end) ∙ c.loop-at.invariant.0 ∙ take_all c.loop-at.at (drop 1 (b ++ c.args.more ∷ [])) (omega (arith, length_announced b c.args.more))
