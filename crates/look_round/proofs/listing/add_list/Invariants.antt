use Rattle.std.proofs.Common.{take}
use Rattle.look_round.proofs.ReplyListLemmas.{AddsUpto}
use Rattle.look_round.proofs.listing.add_list.Given as goal

abbrev pub invariant-loop-at : goal.invariant-loop-at
invariant-loop-at g l =
    AddsUpto (take l.at (g.S.Side.list l.side l.automaton l.q)) (g.S.Side.matches l.side l.automaton) l.automaton.states l.label l.p l.fn.items.items l.items.items
