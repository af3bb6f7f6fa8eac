use Rattle.std.proofs.Common.{◌-◌, ◌≤◌}
use Rattle.delayed_sim.specs.Stored.{entry_triples}
use Rattle.delayed_sim.specs.Words.{ListsTriplesBefore}
use Rattle.delayed_sim.proofs.listing.push_row.Given as goal

abbrev pub invariant-loop-q : goal.invariant-loop-q
invariant-loop-q l = ListsTriplesBefore l.labels l.letters l.board l.ranks l.x l.at (entry_triples l.letters l.entries.items) × (l.at ≤ l.board.states)

abbrev pub decreases-loop-q : goal.decreases-loop-q
decreases-loop-q l = l.board.states - l.at
