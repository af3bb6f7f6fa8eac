use Rattle.std.proofs.Common.{ℕ, ◌<◌}
use Rattle.auto_core.specs.Rows.{HasBit, HasCell}
use Rattle.lasso_accept.proofs.countdown.first_meeting.Given as goal

abbrev pub invariant-loop-at : goal.invariant-loop-at
invariant-loop-at l = (k p : ℕ) → k < l.at → p < l.count → HasBit l.marks p → HasCell l.table l.width k p → ⊥
