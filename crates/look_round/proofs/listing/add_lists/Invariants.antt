use Rattle.look_round.specs.ReplyLists.{AreListedUpto}
use Rattle.look_round.proofs.listing.add_lists.Given as goal

abbrev pub invariant-loop-i : goal.invariant-loop-i
invariant-loop-i g l = AreListedUpto (g.S.Side.goes l.side l.automaton) (g.S.Side.matches l.side l.automaton) l.automaton.states l.labels l.kinds l.starts.items l.items.items l.i
