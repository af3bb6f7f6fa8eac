use Rattle.std.proofs.Common.{◌≡◌, ℕ, ◌<◌, ◌≤◌, slice_index, bit_and}
use Rattle.std.specs.Int.Bits.{bit_xor}
use Rattle.look_round.proofs.answer_rows.leave_others.Given as goal

abbrev pub invariant-loop-j : goal.invariant-loop-j
invariant-loop-j l =
    ((k : ℕ) → k < l.j → slice_index l.rest k ≡ bit_and (slice_index l.row k) (bit_xor (slice_index l.row k) (slice_index l.fn.rest k)))
    × ((k : ℕ) → l.j ≤ k → slice_index l.rest k ≡ slice_index l.fn.rest k)
