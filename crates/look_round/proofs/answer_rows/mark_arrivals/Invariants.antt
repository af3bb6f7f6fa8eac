use Rattle.look_round.proofs.AnsweringLemmas.{HasArrivalsUpto}
use Rattle.look_round.proofs.answer_rows.mark_arrivals.Given as goal

abbrev pub invariant-loop-at : goal.invariant-loop-at
invariant-loop-at g l = HasArrivalsUpto (g.S.Side.arriving l.side l.automaton l.r) l.fn.table l.table l.labels l.width l.t l.at
