use Rattle.std.proofs.Common.{ℕ, ◌<◌}
use Rattle.product_laws.specs.Ascending.{pair_at}
use Rattle.ranked_product.specs.Rules.{KeepsRules}
use Rattle.ranked_product.proofs.checking.check.Given as goal

abbrev pub invariant-loop-at : goal.invariant-loop-at
invariant-loop-at l = (i : ℕ) → i < l.at → KeepsRules l.first l.second l.pairs (pair_at l.pairs i)
