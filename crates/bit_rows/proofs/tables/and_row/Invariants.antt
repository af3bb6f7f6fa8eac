use Rattle.std.proofs.Common.{◌≡◌, ℕ, ◌+◌, ◌*◌, ◌<◌, ◌≤◌, slice_index, bit_and}
use Rattle.bit_rows.proofs.tables.and_row.Given as goal

abbrev pub invariant-loop-j : goal.invariant-loop-j
invariant-loop-j l =
    ((k : ℕ) → k < l.j → slice_index l.table (l.p * l.width + k) ≡ bit_and (slice_index l.fn.table (l.p * l.width + k)) (slice_index l.with k))
    × ((k : ℕ) → l.p * l.width + l.j ≤ k → slice_index l.table k ≡ slice_index l.fn.table k)
    × ((k : ℕ) → k < l.p * l.width → slice_index l.table k ≡ slice_index l.fn.table k)
