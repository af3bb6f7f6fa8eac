use Rattle.std.proofs.Common.{◌≡◌, ℕ, ◌<◌, ◌≤◌, ◌↔◌, true, false, length}
use Rattle.auto_core.specs.Automaton.{IsAccepting}
use Rattle.auto_core.specs.Rows.{bit_of}
use Rattle.auto_core.specs.Game.{Holds}
use Rattle.delayed_game.specs.Pairings.{IsPairing}
use Rattle.delayed_game.specs.Settling.{HasSomeRank}
use Rattle.delayed_game.proofs.playing.drop_unranked.Given as goal

abbrev pub invariant-loop-p : goal.invariant-loop-p
invariant-loop-p l =
    ((l.board.places ≡ l.fn.board.places) × (l.board.states ≡ l.fn.board.states))
    × IsPairing l.board
    × ((r s : ℕ) → Holds l.board.pairs r s ↔ (Holds l.fn.board.pairs r s × (r < l.p → IsAccepting l.places r → HasSomeRank l.ranks l.fn.board.states r s)))
    × (length l.board.pairs ≤ length l.fn.board.pairs)
    × (l.any ≡ true → length l.board.pairs < length l.fn.board.pairs)
    × (l.any ≡ false → l.board ≡ l.fn.board)
    × ((x : ℕ) → bit_of l.marks x ≡ false → (bit_of l.fn.marks x ≡ false) × ((q : ℕ) → Holds l.fn.board.pairs x q → Holds l.board.pairs x q))
