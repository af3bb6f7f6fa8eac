use Rattle.std.proofs.Common.{◌<◌, All}
use Rattle.look_round.specs.Words.{AreMatches}
use Rattle.look_round.proofs.kinds.match_rows.Given as goal

abbrev pub invariant-loop-p : goal.invariant-loop-p
invariant-loop-p g l = AreMatches (g.S.Side.matches l.side l.automaton) l.automaton.states l.table l.width l.p × All (λ s. s < l.p) l.kinds.items
