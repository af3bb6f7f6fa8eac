use Rattle.auto_core.specs.Game.{Holds}
use Rattle.look_round.specs.Answering.{IsAnsweredAtOnce}
use Rattle.look_round.proofs.AnsweringLemmas.{HasClearedUpto}
use Rattle.look_round.proofs.answer_rows.clear_arrivals.Given as goal

abbrev pub invariant-loop-at : goal.invariant-loop-at
invariant-loop-at g l =
    HasClearedUpto (g.S.Side.arriving l.side l.automaton l.r)
    (λ a q. IsAnsweredAtOnce (g.S.Side.goes l.side l.automaton) (g.S.Side.matches l.side l.automaton) (Holds l.rel.pairs) a l.t q) l.fn.table l.table l.labels l.width l.t l.at
