use Rattle.std.proofs.Common.{◌≡◌, ℕ, ◌*◌, ◌/◌, ◌<◌, ◌⊎◌, ◌↔◌, length}
use Rattle.auto_core.specs.Automaton.{trans_at}
use Rattle.auto_core.specs.Rows.{HasCell}
use Rattle.delayed_game.specs.Boards.{HasFreshAnswer}
use Rattle.delayed_game.proofs.blocks.note_block.Given as goal

abbrev pub invariant-loop-label : goal.invariant-loop-label
invariant-loop-label l = (t q : ℕ) → t < length l.places.transitions → q < l.width * 64 → HasCell l.answered l.width t q
    ↔ (HasCell l.fn.answered l.width t q
    ⊎ (((trans_at l.places t).label < l.label) × ((trans_at l.places t).target / 64 ≡ l.block) × HasFreshAnswer l.places l.automaton l.fresh t q))
