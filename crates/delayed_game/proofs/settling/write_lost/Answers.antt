use Rattle.std.proofs.Common.{sym, ◌∙◌, arith}
use Rattle.std.proofs.Math.Facts.{Fits-lt-pow}
use Rattle.delayed_game.proofs.MendLemmas.{row_lost}
use Rattle.delayed_game.proofs.settling.write_lost.Goals as goal

pub returns : goal.returns
returns c = λ q near.
    let is = row_lost c.row_at-before.result.now c.args.ends.now c.loop-j.lost c.args.width (λ k. Fits-lt-pow (c.type_inv.ends k))
    (λ k k_in. c.loop-j.invariant k (omega (arith, k_in, c.loop-j-test.false))) q near in (
      λ bit. let both = is.0 bit in (sym (c.row_at-before.ensures.bits q near) ∙ both.0, both.1),
      λ both. is.1 (c.row_at-before.ensures.bits q near ∙ both.0, both.1),
    )
