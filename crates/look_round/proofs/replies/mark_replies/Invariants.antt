use Rattle.look_round.proofs.ReplyLemmas.{HasRepliesUpto}
use Rattle.look_round.proofs.replies.mark_replies.Given as goal

abbrev pub invariant-loop-at : goal.invariant-loop-at
invariant-loop-at g l =
    HasRepliesUpto (g.S.Side.list l.side l.automaton l.from) (g.S.Side.matches l.side l.automaton) l.step.label l.step.to l.fn.table l.table l.width l.row l.at
