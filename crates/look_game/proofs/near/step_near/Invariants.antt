use Rattle.look_game.proofs.NearLemmas.{HasSteps}
use Rattle.look_game.proofs.near.step_near.Given as goal

abbrev pub invariant-loop-p : goal.invariant-loop-p
invariant-loop-p g l = HasSteps (g.S.Side.goes l.side l.automaton) l.marks l.near l.next l.p
