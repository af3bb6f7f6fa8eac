use Rattle.std.proofs.Common.{◌≡◌}
use Rattle.auto_core.specs.Game.{Holds}
use Rattle.look_game.specs.Taking.{TakesAway}
use Rattle.look_game.specs.Visiting.{IsRoomFor}
use Rattle.look_game.proofs.sweeping.sweep_often.Given as goal

abbrev pub invariant-loop-time : goal.invariant-loop-time
invariant-loop-time g l =
    (l.scratch ≡ l.fn.scratch)
    × TakesAway (g.S.Side.goes l.side l.automaton) (g.S.Side.matches l.side l.automaton) l.look l.fn.rel l.rel
    × IsRoomFor (g.S.Side.goes l.side l.automaton) (g.S.Side.matches l.side l.automaton) (Holds l.rel.pairs) l.automaton.states l.visits
