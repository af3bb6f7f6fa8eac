use Rattle.std.proofs.Common.{◌≡◌}
use Rattle.look_game.proofs.RowLemmas.{IsPassing}
use Rattle.look_game.proofs.rounds.pass.Given as goal

abbrev pub invariant-loop-p : goal.invariant-loop-p
invariant-loop-p g l =
    (l.scratch ≡ l.fn.scratch)
    × IsPassing (g.S.Side.goes l.side l.automaton) (g.S.Side.matches l.side l.automaton) l.look l.fn.rel l.rel l.changed l.p
