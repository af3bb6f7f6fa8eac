use Rattle.std.proofs.Common.{ℕ, ◌*◌, ◌<◌}
use Rattle.auto_core.specs.Rows.{HasBit}
use Rattle.bit_rows.proofs.within.subset.Given as goal

abbrev pub invariant-loop-i : goal.invariant-loop-i
invariant-loop-i l = (k : ℕ) → k < l.i * 64 → HasBit l.row k → HasBit l.other k
