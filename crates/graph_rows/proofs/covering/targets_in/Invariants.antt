use Rattle.std.proofs.Common.{◌*◌, ◌+◌, ◌<◌, ◌↔◌, ℕ, [], ◌∷◌}
use Rattle.auto_core.specs.Rows.{HasBit, HasCell}
use Rattle.graph_rows.proofs.covering.targets_in.Given as goal

abbrev pub invariant-loop-row : goal.invariant-loop-row
invariant-loop-row l = (j : ℕ) → j < 64 → HasBit (l.targets ∷ []) j ↔ ((s : ℕ) × (s < l.row) × HasCell l.table l.width s (l.word * 64 + j))
