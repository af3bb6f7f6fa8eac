use Rattle.std.proofs.Common.{ℕ, ◌-◌, ◌<◌, ◌≤◌}
use Rattle.auto_core.specs.Game.{Holds}
use Rattle.quotient.proofs.classing.class_for.Given as goal

abbrev pub invariant-loop-before : goal.invariant-loop-before
invariant-loop-before l = (l.at ≤ l.state) × ((p : ℕ) → p < l.at → Holds l.rel.pairs p l.state → Holds l.rel.pairs l.state p → ⊥)

abbrev pub decreases-loop-before : goal.decreases-loop-before
decreases-loop-before l = l.state - l.at
