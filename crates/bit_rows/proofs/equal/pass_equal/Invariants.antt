use Rattle.std.proofs.Common.{◌≡◌, ℕ, ◌-◌, ◌<◌, ◌≤◌, length, slice_index}
use Rattle.bit_rows.proofs.equal.pass_equal.Given as goal

abbrev pub invariant-lanes : goal.invariant-lanes
invariant-lanes l = record {
  most : l.at ≤ length l.row;
  equal : (k : ℕ) → k < l.at → slice_index l.row k ≡ slice_index l.other k;
}

abbrev pub decreases-lanes : goal.decreases-lanes
decreases-lanes l = length l.row - l.at
