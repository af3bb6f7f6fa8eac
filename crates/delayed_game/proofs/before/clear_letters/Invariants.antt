use Rattle.std.proofs.Common.{◌≡◌, ℕ, ◌*◌, ◌<◌, false, slice_index}
use Rattle.auto_core.specs.Automaton.{trans_at}
use Rattle.auto_core.specs.Rows.{cell_of}
use Rattle.delayed_game.proofs.before.clear_letters.Given as goal

abbrev pub invariant-loop-i : goal.invariant-loop-i
invariant-loop-i l = (k q : ℕ) → k < l.i → q < l.width * 64 → cell_of l.made l.width (trans_at l.places (slice_index l.before k)).label q ≡ false
