use Rattle.std.proofs.Common.{◌≡◌, ℕ, ◌+◌, ◌<◌, slice_index_or}
use Rattle.auto_core.specs.declared.parts.Trans.{Trans}
use Rattle.auto_core.proofs.tables.has_equal_neighbours.Given as goal

abbrev pub invariant-loop-i : goal.invariant-loop-i
invariant-loop-i l =
    (k : ℕ) (d : Trans) → k + 1 < l.i → ¬ (slice_index_or l.transitions k d ≡ slice_index_or l.transitions (k + 1) d)
