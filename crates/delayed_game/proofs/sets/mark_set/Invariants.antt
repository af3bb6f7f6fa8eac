use Rattle.std.proofs.Common.{ℕ, ◌*◌, ◌<◌, ◌⊎◌, ◌↔◌}
use Rattle.auto_core.specs.Rows.{HasCell}
use Rattle.delayed_game.proofs.SetLemmas.{LeadsToFirst}
use Rattle.delayed_game.proofs.sets.mark_set.Given as goal

abbrev pub invariant-loop-i : goal.invariant-loop-i
invariant-loop-i l = (a q : ℕ) → q < l.width * 64 → HasCell l.made l.width a q ↔ (HasCell l.fn.made l.width a q ⊎ LeadsToFirst l.automaton l.number l.i a q)
