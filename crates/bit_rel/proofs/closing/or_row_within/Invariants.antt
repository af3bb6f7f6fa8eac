use Rattle.std.proofs.Common.{◌≡◌, ℕ, ◌+◌, ◌*◌, ◌<◌, ◌≤◌, slice_index, bit_or}
use Rattle.bit_rel.proofs.closing.or_row_within.Given as goal

abbrev pub invariant-loop-j : goal.invariant-loop-j
invariant-loop-j l =
    ((k : ℕ) → k < l.j → slice_index l.table (l.into * l.width + k) ≡ bit_or (slice_index l.fn.table (l.into * l.width + k)) (slice_index l.fn.table (l.from * l.width + k)))
    × ((k : ℕ) → l.into * l.width + l.j ≤ k → slice_index l.table k ≡ slice_index l.fn.table k)
    × ((k : ℕ) → k < l.into * l.width → slice_index l.table k ≡ slice_index l.fn.table k)
