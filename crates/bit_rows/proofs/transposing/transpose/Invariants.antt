use Rattle.std.proofs.Common.{◌≡◌, length}
use Rattle.bit_rows.proofs.TransposedLemmas.{AreRowsTurned}
use Rattle.bit_rows.proofs.transposing.transpose.Given as goal

abbrev pub invariant-loop-i : goal.invariant-loop-i
invariant-loop-i l = AreRowsTurned l.table l.turned l.width l.rows l.span l.columns l.i × (length l.block ≡ 64)
