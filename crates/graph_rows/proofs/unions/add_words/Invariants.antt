use Rattle.std.proofs.Common.{◌≡◌, ℕ, ◌+◌, ◌*◌, ◌<◌, ◌≤◌, slice_index, bit_or}
use Rattle.graph_rows.proofs.unions.add_words.Given as goal

abbrev pub invariant-loop-j : goal.invariant-loop-j
invariant-loop-j g l =
    ((k : ℕ) → k < l.j → slice_index l.table (l.row * l.width + l.first + k) ≡ bit_or (slice_index l.fn.table (l.row * l.width + l.first + k)) (slice_index l.words k))
    × ((k : ℕ) → l.row * l.width + l.first + l.j ≤ k → slice_index l.table k ≡ slice_index l.fn.table k)
    × ((k : ℕ) → k < l.row * l.width + l.first → slice_index l.table k ≡ slice_index l.fn.table k)
