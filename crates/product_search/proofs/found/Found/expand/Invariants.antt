use Rattle.std.proofs.Common.{ℕ, ◌<◌, ◌≤◌, length, Contains}
use Rattle.auto_core.specs.Automaton.{trans_at}
use Rattle.product_laws.specs.Reached.{GoesTo}
use Rattle.product_search.specs.Found.{pair_at, AreFound, Grows, IsQuietEnough}
use Rattle.product_search.proofs.found.Found.expand.Given as goal

abbrev pub invariant-loop-t : goal.invariant-loop-t
invariant-loop-t l =
    AreFound l.first l.second l.quiet l.self.pairs.keys l.self.steps.items
    × Grows l.initial.self.pairs.keys l.self.pairs.keys
    × (length l.self.pairs.keys ≤ l.limit)
    × ((k : ℕ) → l.initial.t ≤ k → k < l.t → (s : ℕ) → GoesTo l.second (pair_at l.initial.self.pairs.keys l.from).1 (trans_at l.first k).label s → IsQuietEnough l.second l.quiet s
    → Contains l.self.pairs.keys ((trans_at l.first k).target, s))
