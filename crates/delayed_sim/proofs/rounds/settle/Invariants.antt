use Rattle.std.proofs.Common.{length}
use Rattle.delayed_sim.specs.Rounds.{HasEachTriple, IsShortened}
use Rattle.delayed_sim.proofs.rounds.settle.Given as goal

abbrev pub invariant-passes : goal.invariant-passes
invariant-passes l = IsShortened l.fn.delayed l.delayed × HasEachTriple l.automaton l.delayed.letters l.delayed.triples

abbrev pub decreases-passes : goal.decreases-passes
decreases-passes l = length l.delayed.triples
