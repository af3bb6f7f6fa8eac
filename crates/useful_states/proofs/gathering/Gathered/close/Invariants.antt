use Rattle.std.proofs.Common.{◌-◌}
use Rattle.useful_states.specs.Gathering.{MovesAlong}
use Rattle.useful_states.proofs.GatherLemmas.{IsClosing}
use Rattle.useful_states.proofs.gathering.Gathered.close.Given as goal

abbrev pub invariant-loop-at : goal.invariant-loop-at
invariant-loop-at l = IsClosing (MovesAlong l.automaton l.direction) l.fn.self l.self l.at

abbrev pub decreases-loop-at : goal.decreases-loop-at
decreases-loop-at l = l.automaton.states - l.at
