use Rattle.std.proofs.Common.{take}
use Rattle.auto_core.specs.Game.{Holds}
use Rattle.look_round.proofs.ListedLemmas.{NoneAnswers}
use Rattle.look_round.proofs.list_rounds.one_answers.Given as goal

abbrev pub invariant-loop-i : goal.invariant-loop-i
invariant-loop-i g l =
    NoneAnswers (g.S.Side.goes l.side l.automaton) (g.S.Side.matches l.side l.automaton) (Holds l.rel.pairs) l.step.label l.step.to (take l.i l.from)
