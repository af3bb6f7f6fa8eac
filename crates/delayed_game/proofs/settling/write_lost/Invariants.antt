use Rattle.std.proofs.Common.{◌≡◌, ℕ, ◌<◌, slice_index, bit_and, w64}
use Rattle.std.specs.Int.{bit_not}
use Rattle.delayed_game.proofs.settling.write_lost.Given as goal

abbrev pub invariant-loop-j : goal.invariant-loop-j
invariant-loop-j l = (k : ℕ) → k < l.j → slice_index l.lost k ≡ bit_and (slice_index l.before k) (bit_not w64 (slice_index l.ends k))
