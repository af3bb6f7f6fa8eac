use Rattle.look_game.proofs.NearLemmas.{LeadElsewhere}
use Rattle.look_game.proofs.near.moves_into.Given as goal

abbrev pub invariant-loop-at : goal.invariant-loop-at
invariant-loop-at g l = LeadElsewhere (g.S.Side.list l.side l.automaton l.p) l.marks l.near l.at
