use Rattle.std.proofs.Common.{◌≡◌, ◌<◌, ◌++◌, ◌∷◌, [], length, take, get_or, sym, ap, ◌∙◌, arith}
use Rattle.std.proofs.lemmas.List.{take_all, take_more, take_more_set, length-set}
use Rattle.delayed_sim.proofs.entries.padded.Goals as goal

pub loop-at-preserved : goal.loop-at-preserved
loop-at-preserved c =
    let b = c.args.ahead.now in
    let word = c.loop-at.letters in
    let at = c.loop-at.at in
    let inside : at < length b = omega (arith, c.loop-at-test.true) in
    let in_three : at < length word = omega (arith, c.loop-at.invariant.1, c.requires) in (
      take_more_set word at (get_or b at 0) in_three ∙ ap (λ l. l ++ get_or b at 0 ∷ []) c.loop-at.invariant.0 ∙ sym (take_more b at 0 inside),
      length-set word at (get_or b at 0) ∙ c.loop-at.invariant.1,
    )

pub returns : goal.returns
returns c =
    let b = c.args.ahead.now in
    let end : c.loop-at.at ≡ length b = omega (arith, c.loop-at-test.false, c.loop-at.auto.at-end) in
    ap (λ k. take k c.loop-at.letters) (sym end) ∙ c.loop-at.invariant.0 ∙ take_all c.loop-at.at b (omega arith)
