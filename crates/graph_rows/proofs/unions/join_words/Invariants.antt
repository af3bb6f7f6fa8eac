use Rattle.std.proofs.Common.{◌≡◌, ℕ, ◌+◌, ◌<◌, ◌≤◌, slice_index, bit_or}
use Rattle.graph_rows.proofs.unions.join_words.Given as goal

abbrev pub invariant-loop-j : goal.invariant-loop-j
invariant-loop-j g l =
    ((k : ℕ) → k < l.j → slice_index l.into k ≡ bit_or (slice_index l.fn.into k) (slice_index l.row (l.first + k)))
    × ((k : ℕ) → l.j ≤ k → slice_index l.into k ≡ slice_index l.fn.into k)
