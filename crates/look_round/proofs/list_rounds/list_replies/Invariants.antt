use Rattle.look_round.specs.Listed.{IsListedWithin, Lists}
use Rattle.look_round.specs.Replies.{HasReplyFrom}
use Rattle.look_round.proofs.list_rounds.list_replies.Given as goal

abbrev pub invariant-loop-i : goal.invariant-loop-i
invariant-loop-i g l =
    Lists l.fn.listed l.listed l.end l.to l.automaton.states
    (HasReplyFrom (g.S.Side.goes l.side l.automaton) (g.S.Side.matches l.side l.automaton) l.step.label l.step.to (IsListedWithin l.fn.listed l.at l.i))
