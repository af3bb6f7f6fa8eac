use Rattle.std.proofs.Common.{◌≡◌, ℕ, ◌-◌, ◌<◌, ◌≤◌, length, slice_index, bit_or}
use Rattle.auto_core.proofs.rows.or_lanes.Given as goal

abbrev pub invariant-lanes : goal.invariant-lanes
invariant-lanes l = record {
  most : l.at ≤ length l.into;
  first : (k : ℕ) → k < l.at → slice_index l.into k ≡ bit_or (slice_index l.fn.into k) (slice_index l.from k);
  rest : (k : ℕ) → l.at ≤ k → slice_index l.into k ≡ slice_index l.fn.into k;
}

abbrev pub decreases-lanes : goal.decreases-lanes
decreases-lanes l = length l.into - l.at
