use Rattle.std.proofs.Common.{ℕ, ◌<◌, ◌↔◌, ◌⊎◌}
use Rattle.auto_core.specs.Rows.{HasBit}
use Rattle.bit_rows.proofs.bits.mark_below.Given as goal

abbrev pub invariant-loop-i : goal.invariant-loop-i
invariant-loop-i l = (k : ℕ) → HasBit l.row k ↔ ((k < l.i) ⊎ HasBit l.fn.row k)
