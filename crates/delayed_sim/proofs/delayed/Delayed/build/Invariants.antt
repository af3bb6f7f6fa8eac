use Rattle.delayed_sim.specs.Stored.{entry_triples}
use Rattle.delayed_sim.proofs.BuildLemmas.{IsFilled}
use Rattle.delayed_sim.proofs.delayed.Delayed.build.Given as goal

abbrev pub invariant-loop-i : goal.invariant-loop-i
invariant-loop-i l = IsFilled l.triples l.i (entry_triples l.letters l.held.items)
