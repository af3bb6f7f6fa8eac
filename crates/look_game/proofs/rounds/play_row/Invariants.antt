use Rattle.std.proofs.Common.{◌≡◌}
use Rattle.look_game.proofs.RowLemmas.{IsVisiting}
use Rattle.look_game.proofs.rounds.play_row.Given as goal

abbrev pub invariant-loop-q : goal.invariant-loop-q
invariant-loop-q g l =
    (l.scratch ≡ l.fn.scratch)
    × IsVisiting (g.S.Side.goes l.side l.automaton) (g.S.Side.matches l.side l.automaton) l.look l.p l.fn.rel l.rel l.changed l.q
