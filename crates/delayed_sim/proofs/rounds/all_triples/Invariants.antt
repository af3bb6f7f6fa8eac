use Rattle.delayed_sim.specs.Stored.{entry_triples}
use Rattle.delayed_sim.proofs.FullLemmas.{IsFull}
use Rattle.delayed_sim.proofs.rounds.all_triples.Given as goal

abbrev pub invariant-loop-number : goal.invariant-loop-number
invariant-loop-number l = IsFull l.labels l.letters l.states l.number (entry_triples l.letters l.entries.items)
