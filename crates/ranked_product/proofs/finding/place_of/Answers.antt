use Rattle.std.proofs.Common.{ℕ, ◌+◌, ◌-◌, ◌/◌, arith}
use Rattle.product_laws.proofs.AscendLemmas.{before_place}
use Rattle.ranked_product.proofs.finding.place_of.Goals as goal

pub loop-low-preserved-then-is_before : goal.loop-low-preserved-then-is_before
loop-low-preserved-then-is_before c =
    let (rising, within, before, behind) = c.loop-low.invariant in
    let middle : ℕ = c.loop-low.low + (c.loop-low.high - c.loop-low.low) / 2 in (
      omega (arith, c.loop-low-test.true),
      within,
      before_place c.args.pairs.now c.requires middle c.args.left c.args.right (omega (arith, c.loop-low-test.true)) (c.is_before.ensures.0 c.if-is_before.true),
      behind,
    )
