use Rattle.std.proofs.Common.{◌≡◌, ℕ, ◌+◌, ◌*◌, ◌<◌, ◌≤◌, slice_index}
use Rattle.graph_rows.proofs.letters.copy_row.Given as goal

abbrev pub invariant-loop-j : goal.invariant-loop-j
invariant-loop-j l =
    ((k : ℕ) → k < l.j → slice_index l.table (l.to * l.width + k) ≡ slice_index l.fn.table (l.from * l.width + k))
    × ((k : ℕ) → l.to * l.width + l.j ≤ k → slice_index l.table k ≡ slice_index l.fn.table k)
    × ((k : ℕ) → k < l.to * l.width → slice_index l.table k ≡ slice_index l.fn.table k)
