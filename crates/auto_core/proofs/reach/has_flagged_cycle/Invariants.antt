use Rattle.std.proofs.Common.{ℕ, ◌<◌}
use Rattle.auto_core.specs.Rows.{HasBit}
use Rattle.auto_core.specs.Reach.{HasArc, ReturnsTo}
use Rattle.auto_core.proofs.reach.has_flagged_cycle.Given as goal

abbrev pub invariant-loop-at : goal.invariant-loop-at
invariant-loop-at l =
    (x : ℕ) → x < l.at → HasBit l.marks x → ReturnsTo (HasArc l.any l.count l.width) (HasArc l.flagged l.count l.width) x → ⊥
