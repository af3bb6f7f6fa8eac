use Rattle.std.proofs.Common.{ℕ, ◌<◌}
use Rattle.auto_core.specs.Rows.{HasBit, HasCell}
use Rattle.lasso_accept.proofs.countdown.meets.Given as goal

abbrev pub invariant-loop-place : goal.invariant-loop-place
invariant-loop-place l = (p : ℕ) → p < l.place → HasBit l.marks p → HasCell l.table l.width l.at p → ⊥
