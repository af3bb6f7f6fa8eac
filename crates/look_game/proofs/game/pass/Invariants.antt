use Rattle.std.proofs.Common.{◌≡◌}
use Rattle.auto_core.specs.Game.{Holds}
use Rattle.look_game.specs.Visiting.{IsRoomFor}
use Rattle.look_game.proofs.NearLemmas.{IsTrying}
use Rattle.look_game.proofs.game.pass.Given as goal

abbrev pub invariant-loop-p : goal.invariant-loop-p
invariant-loop-p g l =
    (l.scratch ≡ l.fn.scratch)
    × IsTrying (g.S.Side.goes l.side l.automaton) (g.S.Side.matches l.side l.automaton) l.look l.marks l.fn.rel l.rel l.changed l.any l.p
    × IsRoomFor (g.S.Side.goes l.side l.automaton) (g.S.Side.matches l.side l.automaton) (Holds l.rel.pairs) l.automaton.states l.visits
