use Rattle.std.proofs.Common.{ℕ, ◌<◌}
use Rattle.auto_core.specs.Rows.{HasCell}
use Rattle.lasso_accept.proofs.countdown.leads_into.Given as goal

abbrev pub invariant-loop-q : goal.invariant-loop-q
invariant-loop-q l = (r : ℕ) → r < l.q → HasCell l.any l.width l.place r → HasCell l.table l.width l.at r → ⊥
