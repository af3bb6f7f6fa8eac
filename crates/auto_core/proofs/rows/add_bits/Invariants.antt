use Rattle.std.proofs.Common.{◌≡◌, ℕ, ◌<◌, ◌≤◌, slice_index, bit_or}
use Rattle.auto_core.proofs.rows.add_bits.Given as goal

abbrev pub invariant-loop-i : goal.invariant-loop-i
invariant-loop-i l =
    ((k : ℕ) → k < l.i → slice_index l.into k ≡ bit_or (slice_index l.fn.into k) (slice_index l.from k))
    × ((k : ℕ) → l.i ≤ k → slice_index l.into k ≡ slice_index l.fn.into k)
