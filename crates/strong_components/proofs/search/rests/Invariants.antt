use Rattle.std.proofs.Common.{◌≡◌, ℕ, ◌+◌, ◌<◌, length}
use Rattle.strong_components.specs.Graph.{at}
use Rattle.strong_components.proofs.search.rests.Given as goal

abbrev pub invariant-loop-v : goal.invariant-loop-v
invariant-loop-v l = (length l.rest.items ≡ l.v) × ((v : ℕ) → v < l.v → at l.rest.items v + at l.starts v ≡ at l.starts (v + 1))
