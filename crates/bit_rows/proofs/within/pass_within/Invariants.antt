use Rattle.std.proofs.Common.{ℕ, ◌-◌, ◌*◌, ◌<◌, ◌≤◌, length}
use Rattle.auto_core.specs.Rows.{HasBit}
use Rattle.bit_rows.proofs.within.pass_within.Given as goal

abbrev pub invariant-lanes : goal.invariant-lanes
invariant-lanes l = record {
  most : l.at ≤ length l.row;
  within : (i : ℕ) → i < l.at * 64 → HasBit l.row i → HasBit l.other i;
}

abbrev pub decreases-lanes : goal.decreases-lanes
decreases-lanes l = length l.row - l.at
