use Rattle.std.proofs.Common.{◌≡◌, ℕ, ◌<◌, false, length}
use Rattle.auto_core.specs.Rows.{bit_of}
use Rattle.auto_core.specs.Game.{Holds}
use Rattle.delayed_game.specs.Settling.{AnswersAll, KeptRowsAnswer, TakesAway}
use Rattle.delayed_game.specs.Boards.{AreLeastRanks}
use Rattle.delayed_game.proofs.playing.rank_or_drop.Given as goal

abbrev pub invariant-turns : goal.invariant-turns
invariant-turns l =
    TakesAway l.places l.automaton l.fn.board l.board
    × ((x : ℕ) → x < l.places.states → bit_of l.marks x ≡ false)
    × ((p q : ℕ) → Holds l.board.pairs p q → AnswersAll l.places l.automaton (Holds l.board.pairs) p q)
    × AreLeastRanks l.places l.automaton (Holds l.board.pairs) l.ranks
    × KeptRowsAnswer l.places l.automaton l.width l.kept l.tried l.board

abbrev pub decreases-turns : goal.decreases-turns
decreases-turns l = length l.board.pairs
