use Rattle.std.proofs.Common.{◌≡◌, ℕ, ◌<◌, length}
use Rattle.product_laws.specs.Ascending.{pair_at as ranked_at}
use Rattle.product_search.specs.Ranks.{with_rank}
use Rattle.product_search.proofs.ranking.with_ranks.Given as goal

abbrev pub invariant-loop-number : goal.invariant-loop-number
invariant-loop-number l = (length l.ranked.items ≡ l.number) × ((i : ℕ) → i < l.number → ranked_at l.ranked.items i ≡ with_rank l.pairs.keys l.ranks i)
