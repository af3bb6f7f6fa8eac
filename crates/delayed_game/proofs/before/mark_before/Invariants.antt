use Rattle.auto_core.specs.Rows.{HasCell}
use Rattle.delayed_game.proofs.BeforeLemmas.{HasFound}
use Rattle.std.proofs.Common.{ℕ, ◌*◌, ◌<◌, ◌⊎◌, ◌↔◌}
use Rattle.delayed_game.proofs.before.mark_before.Given as goal

abbrev pub invariant-loop-i : goal.invariant-loop-i
invariant-loop-i l = (a q : ℕ) → q < l.width * 64 → HasCell l.made l.width a q ↔ (HasCell l.fn.made l.width a q ⊎ HasFound l.automaton l.before l.i a q)
