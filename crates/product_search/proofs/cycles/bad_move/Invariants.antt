use Rattle.std.proofs.Common.{ℕ, ◌<◌}
use Rattle.product_search.specs.Arcs.{HasNoBadArc}
use Rattle.product_search.proofs.cycles.bad_move.Given as goal

abbrev pub invariant-loop-from : goal.invariant-loop-from
invariant-loop-from l = (v : ℕ) → v < l.from → HasNoBadArc l.first l.pairs.keys l.arcs.starts.items l.arcs.targets.items l.numbers v
