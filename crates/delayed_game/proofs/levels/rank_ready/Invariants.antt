use Rattle.std.proofs.Common.{◌≡◌, ℕ, ◌<◌, ◌≤◌, true, false, length}
use Rattle.delayed_game.specs.Boards.{IsReady}
use Rattle.delayed_game.proofs.BeforeLemmas.{GivesUpto}
use Rattle.delayed_game.proofs.levels.rank_ready.Given as goal

abbrev pub invariant-loop-p : goal.invariant-loop-p
invariant-loop-p l =
    GivesUpto l.places l.automaton (IsReady l.places l.automaton l.fn.unranked l.answered) l.rank l.fn.unranked l.fn.ranks l.unranked l.ranks l.fresh l.p
    × (length l.unranked.pairs ≤ length l.fn.unranked.pairs)
    × (l.any ≡ true → length l.unranked.pairs < length l.fn.unranked.pairs)
    × (l.any ≡ false → (p q : ℕ) → p < l.p → IsReady l.places l.automaton l.fn.unranked l.answered p q → ⊥)
