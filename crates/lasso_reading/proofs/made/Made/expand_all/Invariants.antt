use Rattle.std.proofs.Common.{◌-◌, ◌≤◌, length}
use Rattle.lasso_reading.specs.Made.{AreMade}
use Rattle.lasso_reading.proofs.made.Made.expand_all.Given as goal

abbrev pub invariant-loop-at : goal.invariant-loop-at
invariant-loop-at l = (length l.self.pairs.keys ≤ l.limit) × (l.at ≤ length l.self.pairs.keys) × AreMade l.factors l.at l.self.pairs.keys l.self.moves.items

abbrev pub decreases-loop-at : goal.decreases-loop-at
decreases-loop-at l = l.limit - l.at
