use Rattle.std.proofs.Common.{ℕ, ◌<◌, ◌≤◌}
use Rattle.product_search.specs.Arcs.{IsBadArc}
use Rattle.product_search.proofs.cycles.bad_move_from.Given as goal

abbrev pub invariant-loop-at : goal.invariant-loop-at
invariant-loop-at l = (k : ℕ) → l.initial.at ≤ k → k < l.at → IsBadArc l.first l.pairs.keys l.targets l.numbers l.from k → ⊥
