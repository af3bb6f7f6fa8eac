use Rattle.std.proofs.Common.{◌-◌, ◌≤◌}
use Rattle.auto_core.specs.Game.{Holds}
use Rattle.look_round.proofs.AnsweringLemmas.{HasAnswersUpto}
use Rattle.look_round.proofs.answer_rows.write_answers.Given as goal

abbrev pub invariant-loop-r : goal.invariant-loop-r
invariant-loop-r g l =
    HasAnswersUpto (g.S.Side.goes l.side l.automaton) (g.S.Side.matches l.side l.automaton) (Holds l.rel.pairs) l.fn.table l.table l.arrivals.labels l.arrivals.width l.t l.at
    × (l.at ≤ l.automaton.states)

abbrev pub decreases-loop-r : goal.decreases-loop-r
decreases-loop-r g l = l.automaton.states - l.at
