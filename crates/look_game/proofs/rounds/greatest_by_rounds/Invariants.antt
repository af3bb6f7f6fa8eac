use Rattle.std.proofs.Common.{◌≡◌, length}
use Rattle.look_game.specs.Taking.{TakesAway}
use Rattle.look_game.proofs.rounds.greatest_by_rounds.Given as goal

abbrev pub invariant-passes : goal.invariant-passes
invariant-passes g l =
    (l.scratch ≡ record { states = l.automaton.states; look = l.look })
    × TakesAway (g.S.Side.goes l.side l.automaton) (g.S.Side.matches l.side l.automaton) l.look l.initial.rel l.rel

abbrev pub decreases-passes : goal.decreases-passes
decreases-passes g l = length l.rel.pairs
