use Rattle.bit_rows.proofs.MarkLemmas.{MarksUpto}
use Rattle.look_round.proofs.kinds.match_row.Given as goal

abbrev pub invariant-loop-q : goal.invariant-loop-q
invariant-loop-q g l = MarksUpto (λ q. g.S.Side.matches l.side l.automaton l.p q) l.row l.q
