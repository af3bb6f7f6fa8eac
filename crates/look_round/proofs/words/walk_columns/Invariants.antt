use Rattle.std.proofs.Common.{◌≤◌}
use Rattle.look_round.specs.Words.{AreColumns}
use Rattle.look_round.proofs.words.walk_columns.Given as goal

abbrev pub invariant-loop-turn : goal.invariant-loop-turn
invariant-loop-turn g l =
    AreColumns (g.S.Side.goes l.side l.automaton) (g.S.Side.matches l.side l.automaton) l.automaton.states l.columns l.width l.count × (l.count ≤ l.room)
