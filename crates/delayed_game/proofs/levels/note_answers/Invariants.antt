use Rattle.std.proofs.Common.{◌≡◌, ℕ, ◌*◌, ◌<◌, ◌⊎◌, ◌↔◌, length, slice_index}
use Rattle.auto_core.specs.Automaton.{trans_at}
use Rattle.auto_core.specs.Rows.{HasCell}
use Rattle.delayed_game.specs.Before.{LeadsTo}
use Rattle.delayed_game.proofs.levels.note_answers.Given as goal

abbrev pub invariant-loop-i : goal.invariant-loop-i
invariant-loop-i l = (t q : ℕ) → t < length l.places.transitions → q < l.width * 64 → HasCell l.answered l.width t q
    ↔ (HasCell l.fn.answered l.width t q ⊎ ((k : ℕ) × (k < l.i) × (slice_index l.before k ≡ t) × LeadsTo l.automaton (trans_at l.places t).label l.ends q))
