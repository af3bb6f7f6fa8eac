use Rattle.std.proofs.Common.{◌-◌, ◌*◌, ◌≤◌}
use Rattle.look_round.specs.Replies.{IsInRow}
use Rattle.look_round.proofs.StepLemmas.{HasStepUpto}
use Rattle.look_round.proofs.replies.step_replies.Given as goal

abbrev pub invariant-loop-q : goal.invariant-loop-q
invariant-loop-q g l =
    HasStepUpto (g.S.Side.goes l.side l.automaton) (g.S.Side.matches l.side l.automaton) l.step.label l.step.to (IsInRow l.from l.automaton.states) l.initial.table l.table l.width l.number 0 l.at
    × (l.at ≤ l.width * 64)

abbrev pub decreases-loop-q : goal.decreases-loop-q
decreases-loop-q g l = l.width * 64 - l.at
