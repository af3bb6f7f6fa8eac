use Rattle.std.proofs.Common.{ℕ, ◌-◌, ◌<◌, ◌≤◌, length}
use Rattle.product_search.specs.Found.{AreFound, Grows, IsClosedAt}
use Rattle.product_search.proofs.found.Found.expand_all.Given as goal

abbrev pub invariant-loop-at : goal.invariant-loop-at
invariant-loop-at l =
    AreFound l.first l.second l.quiet l.self.pairs.keys l.self.steps.items
    × Grows l.initial.self.pairs.keys l.self.pairs.keys
    × (length l.self.pairs.keys ≤ l.limit)
    × (l.at ≤ length l.self.pairs.keys)
    × ((i : ℕ) → i < l.at → IsClosedAt l.first l.second l.quiet l.self.pairs.keys i)

abbrev pub decreases-loop-at : goal.decreases-loop-at
decreases-loop-at l = l.limit - l.at
