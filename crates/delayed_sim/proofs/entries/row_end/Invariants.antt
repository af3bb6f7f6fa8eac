use Rattle.std.proofs.Common.{◌≡◌, ℕ, ◌<◌, ◌≤◌, slice_index_or}
use Rattle.delayed_sim.specs.Rankings.{row_key}
use Rattle.delayed_sim.specs.Stored.{triple_of, no_entry}
use Rattle.delayed_sim.proofs.entries.row_end.Given as goal

abbrev pub invariant-loop-end : goal.invariant-loop-end
invariant-loop-end l =
    (i : ℕ) → l.at ≤ i → i < l.end → row_key (triple_of l.letters (slice_index_or l.entries i no_entry)) ≡ row_key (triple_of l.letters (slice_index_or l.entries l.at no_entry))
