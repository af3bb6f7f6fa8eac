use Rattle.look_game.specs.Near.{MarksNear}
use Rattle.look_game.proofs.near.mark_near.Given as goal

abbrev pub invariant-loop-step : goal.invariant-loop-step
invariant-loop-step g l = MarksNear (g.S.Side.goes l.side l.automaton) l.automaton.states l._step l.marks l.near
