use Rattle.std.proofs.Common.{◌<◌, ℕ, Contains}
use Rattle.bisimulation.specs.Rounds.{AreBelow}
use Rattle.bisimulation.proofs.finding.all_states.Given as goal

abbrev pub invariant-loop-state : goal.invariant-loop-state
invariant-loop-state l =
    AreBelow l.automaton.states l.due.keys
    × ((p : ℕ) → p < l.state → Contains l.due.keys p)
