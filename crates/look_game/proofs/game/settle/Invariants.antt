use Rattle.std.proofs.Common.{◌≡◌, length}
use Rattle.look_game.specs.Taking.{TakesAway}
use Rattle.auto_core.specs.Game.{Holds}
use Rattle.look_game.specs.Visiting.{IsRoomFor}
use Rattle.look_game.specs.Near.{HasOtherRounds}
use Rattle.look_game.proofs.game.settle.Given as goal

abbrev pub invariant-passes : goal.invariant-passes
invariant-passes g l =
    (l.scratch ≡ l.fn.scratch)
    × TakesAway (g.S.Side.goes l.side l.automaton) (g.S.Side.matches l.side l.automaton) l.look l.fn.rel l.rel
    × HasOtherRounds (g.S.Side.goes l.side l.automaton) (g.S.Side.matches l.side l.automaton) l.look l.rel l.marks
    × IsRoomFor (g.S.Side.goes l.side l.automaton) (g.S.Side.matches l.side l.automaton) (Holds l.rel.pairs) l.automaton.states l.visits

abbrev pub decreases-passes : goal.decreases-passes
decreases-passes g l = length l.rel.pairs
