use Rattle.std.proofs.Common.{ℕ, ◌*◌, ◌<◌, ◌≤◌, ◌↔◌}
use Rattle.auto_core.specs.Rows.{HasBit, HasCell}
use Rattle.delayed_game.proofs.levels.keep_answered.Given as goal

abbrev pub invariant-loop-t : goal.invariant-loop-t
invariant-loop-t l = (q : ℕ) → q < l.width * 64 → HasBit l.row q ↔ (HasBit l.fn.row q × ((u : ℕ) → l.initial.t ≤ u → u < l.t → HasCell l.answered l.width u q))
