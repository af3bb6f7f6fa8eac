use Rattle.std.proofs.Common.{◌/◌, ◌%◌, ◌<◌, ◌==◌, ap, ◌∙◌, arith}
use Rattle.std.specs.Int.{bit_at}
use Rattle.std.proofs.lemmas.Nat.Bits.{bit_at_ones}
use Rattle.delayed_game.proofs.mending.fill_row.Goals as goal

pub returns : goal.returns
returns c = λ i near.
    let below : i / 64 < c.loop-i.i = omega arith in
    let place : i % 64 < 64 = omega arith in
    ap (λ word. bit_at word (i % 64) == 1) (c.loop-i.invariant (i / 64) below) ∙ ap (λ n. n == 1) (bit_at_ones 64 (i % 64) place)
