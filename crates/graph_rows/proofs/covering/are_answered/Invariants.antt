use Rattle.std.proofs.Common.{◌*◌, ◌+◌, ◌<◌, ◌≤◌, ℕ, [], ◌∷◌, ◌-◌}
use Rattle.auto_core.specs.Rows.{HasBit}
use Rattle.auto_core.specs.Game.{Holds}
use Rattle.graph_rows.specs.Covering.{IsTargetAnswered}
use Rattle.graph_rows.proofs.covering.are_answered.Given as goal

abbrev pub invariant-loop-bit : goal.invariant-loop-bit
invariant-loop-bit l = ((j : ℕ) → j < l.at → HasBit (l.targets ∷ []) j → IsTargetAnswered (Holds l.order.pairs) (HasBit l.others) (l.word * 64 + j)) × (l.at ≤ 64)

abbrev pub decreases-loop-bit : goal.decreases-loop-bit
decreases-loop-bit l = 64 - l.at
