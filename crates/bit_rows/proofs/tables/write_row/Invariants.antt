use Rattle.std.proofs.Common.{◌≡◌, ℕ, ◌+◌, ◌*◌, ◌<◌, ◌≤◌, slice_index}
use Rattle.bit_rows.proofs.tables.write_row.Given as goal

abbrev pub invariant-loop-j : goal.invariant-loop-j
invariant-loop-j l =
    ((k : ℕ) → k < l.j → slice_index l.table (l.p * l.width + k) ≡ slice_index l.from k)
    × ((k : ℕ) → l.p * l.width + l.j ≤ k → slice_index l.table k ≡ slice_index l.fn.table k)
    × ((k : ℕ) → k < l.p * l.width → slice_index l.table k ≡ slice_index l.fn.table k)
