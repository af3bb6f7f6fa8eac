use Rattle.std.proofs.Common.{ℕ, ◌<◌, ◌≤◌, length}
use Rattle.strong_components.specs.Graph.{at}
use Rattle.strong_components.proofs.search.bounds_up_to.Given as goal

abbrev pub invariant-loop-count : goal.invariant-loop-count
invariant-loop-count l = (l.count ≤ length l.bounds) × ((i : ℕ) → l.count ≤ i → i < length l.bounds → l.place < at l.bounds i)

abbrev pub decreases-loop-count : goal.decreases-loop-count
decreases-loop-count l = l.count
