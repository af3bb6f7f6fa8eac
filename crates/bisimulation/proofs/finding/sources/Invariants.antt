use Rattle.std.proofs.Common.{◌<◌, ℕ, Contains, get_or}
use Rattle.auto_core.specs.Automaton.{Moves}
use Rattle.bisimulation.specs.Rounds.{AreBelow}
use Rattle.bisimulation.proofs.finding.sources.Given as goal

abbrev pub invariant-loop-i : goal.invariant-loop-i
invariant-loop-i l =
    AreBelow l.automaton.states l.due.keys
    × ((j p a : ℕ) → j < l.i → Moves l.automaton p a (get_or l.states j 0) → Contains l.due.keys p)
