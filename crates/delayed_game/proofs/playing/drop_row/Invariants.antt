use Rattle.std.proofs.Common.{◌-◌, ◌≤◌}
use Rattle.delayed_game.specs.Settling.{HasSomeRank}
use Rattle.delayed_game.proofs.SettleLemmas.{HasTried}
use Rattle.delayed_game.proofs.playing.drop_row.Given as goal

abbrev pub invariant-loop-q : goal.invariant-loop-q
invariant-loop-q l = HasTried l.fn.board l.board l.p (λ q. HasSomeRank l.ranks l.fn.board.states l.p q) l.changed l.at × (l.at ≤ l.fn.board.states)

abbrev pub decreases-loop-q : goal.decreases-loop-q
decreases-loop-q l = l.fn.board.states - l.at
