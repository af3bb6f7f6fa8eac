use Rattle.std.proofs.Common.{ℕ, ◌<◌}
use Rattle.auto_core.specs.Game.{Holds}
use Rattle.delayed_game.specs.Settling.{HasSomeRank}
use Rattle.delayed_game.proofs.playing.has_each_ranked.Given as goal

abbrev pub invariant-loop-p : goal.invariant-loop-p
invariant-loop-p l = (p q : ℕ) → p < l.p → q < l.board.states → HasSomeRank l.ranks l.board.states p q → Holds l.board.pairs p q
