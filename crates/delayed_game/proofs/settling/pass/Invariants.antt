use Rattle.std.proofs.Common.{◌≡◌, ℕ, ◌<◌, ◌≤◌, true, false, length}
use Rattle.auto_core.specs.Rows.{bit_of}
use Rattle.auto_core.specs.Game.{Holds}
use Rattle.delayed_game.specs.Settling.{KeptRowsAnswer, IsAnsweredBesides, TakesAway}
use Rattle.delayed_game.proofs.settling.pass.Given as goal

abbrev pub invariant-loop-to : goal.invariant-loop-to
invariant-loop-to l =
    TakesAway l.places l.automaton l.fn.board l.board
    × (length l.board.pairs ≤ length l.fn.board.pairs)
    × (l.any ≡ true → length l.board.pairs < length l.fn.board.pairs)
    × (l.any ≡ false → (x : ℕ) → l.to ≤ x → x < l.places.states → bit_of l.marks x ≡ false)
    × IsAnsweredBesides l.places l.automaton (Holds l.board.pairs) l.marks
    × KeptRowsAnswer l.places l.automaton l.width l.kept l.tried l.board
