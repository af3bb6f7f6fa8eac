use Rattle.std.proofs.Common.{refl, arith}
use Rattle.product_laws.proofs.AscendLemmas.{ascending_from_neighbours}
use Rattle.ranked_product.proofs.finding.are_ascending.Goals as goal

pub returns : goal.returns
returns c = ((λ yes. ascending_from_neighbours c.args.pairs.now (λ k within. c.loop-at.invariant k (omega (arith, c.loop-at-test.false)))), λ all. refl)
