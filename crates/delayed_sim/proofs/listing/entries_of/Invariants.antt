use Rattle.delayed_sim.specs.Stored.{entry_triples}
use Rattle.delayed_sim.specs.Words.{ListsTriplesBefore}
use Rattle.delayed_sim.proofs.listing.entries_of.Given as goal

abbrev pub invariant-loop-x : goal.invariant-loop-x
invariant-loop-x l = ListsTriplesBefore l.labels l.letters l.board l.ranks l.x 0 (entry_triples l.letters l.entries.items)
