use Rattle.std.proofs.Common.{◌≡◌, ◌+◌, ◌/◌, length}
use Rattle.auto_core.specs.Game.{Holds}
use Rattle.look_round.proofs.AnsweringLemmas.{AnswerUpto}
use Rattle.look_round.proofs.answering.Answering.unanswered.Given as goal

abbrev pub invariant-loop-at : goal.invariant-loop-at
invariant-loop-at g l =
    (length l.rest ≡ (l.automaton.states + 63) / 64)
    × AnswerUpto (g.S.Side.goes l.side l.automaton) (g.S.Side.matches l.side l.automaton) (Holds l.rel.pairs) (g.S.Side.list l.side l.automaton l.p) l.rest l.at
