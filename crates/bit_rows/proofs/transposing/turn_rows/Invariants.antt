use Rattle.std.proofs.Common.{◌≡◌, length}
use Rattle.bit_rows.proofs.TransposedLemmas.{AreTurnedUpto}
use Rattle.bit_rows.proofs.transposing.turn_rows.Given as goal

abbrev pub invariant-loop-j : goal.invariant-loop-j
invariant-loop-j l = AreTurnedUpto l.table l.fn.turned l.turned l.width l.rows l.span l.columns l.i l.j × (length l.block ≡ 64)
