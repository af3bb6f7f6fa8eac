use Rattle.look_game.specs.Taking.{AddsMatching}
use Rattle.look_game.proofs.rounds.match_row.Given as goal

abbrev pub invariant-loop-q : goal.invariant-loop-q
invariant-loop-q g l = AddsMatching (g.S.Side.matches l.side l.automaton) l.q l.p l.fn.rel l.rel
