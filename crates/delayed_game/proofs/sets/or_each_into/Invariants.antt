use Rattle.std.proofs.Common.{◌≡◌, ℕ, ◌<◌, ◌≤◌, slice_index, bit_or}
use Rattle.delayed_game.proofs.sets.or_each_into.Given as goal

abbrev pub invariant-loop-i : goal.invariant-loop-i
invariant-loop-i l =
    ((k : ℕ)
    → k < l.i
    → slice_index l.into k ≡ bit_or (bit_or (bit_or (bit_or (slice_index l.fn.into k) (slice_index l.first k)) (slice_index l.second k)) (slice_index l.third k)) (slice_index l.fourth k))
    × ((k : ℕ) → l.i ≤ k → slice_index l.into k ≡ slice_index l.fn.into k)
