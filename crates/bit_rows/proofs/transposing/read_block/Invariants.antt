use Rattle.bit_rows.proofs.TransposedLemmas.{IsReadUpto}
use Rattle.bit_rows.proofs.transposing.read_block.Given as goal

abbrev pub invariant-loop-k : goal.invariant-loop-k
invariant-loop-k l = IsReadUpto l.table l.width l.rows l.first l.word l.block l.k
