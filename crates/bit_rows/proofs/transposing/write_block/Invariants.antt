use Rattle.std.proofs.Common.{◌+◌, ◌≤◌}
use Rattle.bit_rows.proofs.TransposedLemmas.{IsWrittenUpto}
use Rattle.bit_rows.proofs.transposing.write_block.Given as goal

abbrev pub invariant-loop-c : goal.invariant-loop-c
invariant-loop-c l = IsWrittenUpto l.fn.turned l.turned l.block l.span l.first l.word l.c × (l.first ≤ l.c) × (l.c ≤ l.first + 64)
