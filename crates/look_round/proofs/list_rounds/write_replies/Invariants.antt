use Rattle.std.proofs.Common.{Contains, take}
use Rattle.look_round.specs.Sides.{move}
use Rattle.look_round.specs.Listed.{Lists}
use Rattle.look_round.proofs.list_rounds.write_replies.Given as goal

abbrev pub invariant-loop-at : goal.invariant-loop-at
invariant-loop-at g l =
    Lists l.fn.listed l.listed l.from l.end l.automaton.states (λ r. Contains (take l.at (g.S.Side.list l.side l.automaton l.q)) (move l.step.label r) × g.S.Side.matches l.side l.automaton l.step.to r)
