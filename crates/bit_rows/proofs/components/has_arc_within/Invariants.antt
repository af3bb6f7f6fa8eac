use Rattle.std.proofs.Common.{ℕ, ◌-◌, ◌<◌}
use Rattle.auto_core.specs.Rows.{HasBit}
use Rattle.auto_core.specs.Reach.{HasArc}
use Rattle.bit_rows.proofs.components.has_arc_within.Given as goal

abbrev pub invariant-loop-place : goal.invariant-loop-place
invariant-loop-place l = (p q : ℕ) → p < l.from → HasBit l.places p → HasArc l.flagged l.count l.width p q → HasBit l.places q → ⊥

abbrev pub decreases-loop-place : goal.decreases-loop-place
decreases-loop-place l = l.count - l.from
