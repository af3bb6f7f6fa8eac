use Rattle.std.proofs.Common.{◌≡◌, drop}
use Rattle.cert_value.specs.Text.{numbers_of}
use Rattle.log_check.specs.Blocks.{pairs_with, pairs_of_row}
use Rattle.log_check.proofs.BlockLemmas.{Completes}
use Rattle.log_check.proofs.blocks.add_row.Given as goal

abbrev pub invariant-loop-run : goal.invariant-loop-run
invariant-loop-run l = record {
  size : l.rel.size ≡ l.fn.rel.size;
  rest : Completes l.fn.rel.pairs l.rel.pairs (pairs_with l.row.left (numbers_of (drop l.run-index l.row.runs))) (pairs_of_row l.row);
}
