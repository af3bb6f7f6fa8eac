use Rattle.std.proofs.Common.{ℕ, ◌+◌, ◌<◌}
use Rattle.product_laws.specs.Ascending.{IsBefore, pair_at}
use Rattle.ranked_product.proofs.finding.are_ascending.Given as goal

abbrev pub invariant-loop-at : goal.invariant-loop-at
invariant-loop-at l = (k : ℕ) → k + 1 < l.at → IsBefore (pair_at l.pairs k) (pair_at l.pairs (k + 1)).left (pair_at l.pairs (k + 1)).right
