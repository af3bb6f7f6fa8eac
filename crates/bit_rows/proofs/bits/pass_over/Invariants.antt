use Rattle.std.proofs.Common.{◌≡◌, ℕ, ◌-◌, ◌<◌, ◌≤◌, length, slice_index}
use Rattle.bit_rows.proofs.bits.pass_over.Given as goal

abbrev pub invariant-fours : goal.invariant-fours
invariant-fours l = (l.from ≤ l.at) × (l.at ≤ length l.row) × ((k : ℕ) → l.from ≤ k → k < l.at → slice_index l.row k ≡ 0)

abbrev pub decreases-fours : goal.decreases-fours
decreases-fours l = length l.row - l.at
