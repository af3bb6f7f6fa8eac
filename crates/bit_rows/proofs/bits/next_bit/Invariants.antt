use Rattle.std.proofs.Common.{◌≡◌, ℕ, ◌/◌, ◌<◌, slice_index}
use Rattle.bit_rows.proofs.bits.next_bit.Given as goal

abbrev pub invariant-loop-at : goal.invariant-loop-at
invariant-loop-at l = (k : ℕ) → l.from / 64 < k → k < l.at → slice_index l.row k ≡ 0
