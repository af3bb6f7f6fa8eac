use Rattle.std.proofs.Common.{ℕ, ◌-◌, ◌<◌, ◌≤◌, length}
use Rattle.product_laws.specs.Ascending.{IsBefore, pair_at}
use Rattle.ranked_product.proofs.finding.place_of.Given as goal

abbrev pub invariant-loop-low : goal.invariant-loop-low
invariant-loop-low l =
    (l.low ≤ l.high)
    × (l.high ≤ length l.pairs)
    × ((i : ℕ) → i < l.low → IsBefore (pair_at l.pairs i) l.left l.right)
    × ((i : ℕ) → l.high ≤ i → i < length l.pairs → IsBefore (pair_at l.pairs i) l.left l.right → ⊥)

abbrev pub decreases-loop-low : goal.decreases-loop-low
decreases-loop-low l = l.high - l.low
