use Rattle.std.proofs.Common.{◌≡◌, ◌+◌, ◌-◌}
use Rattle.std.specs.List.{range_with_len}
use Rattle.cert_value.specs.Text.{run_numbers}
use Rattle.log_check.specs.Blocks.{pairs_with}
use Rattle.log_check.proofs.BlockLemmas.{Completes}
use Rattle.log_check.proofs.blocks.add_run.Given as goal

abbrev pub invariant-loop-right : goal.invariant-loop-right
invariant-loop-right l = record {
  size : l.rel.size ≡ l.fn.rel.size;
  rest : Completes l.fn.rel.pairs l.rel.pairs (pairs_with l.left (range_with_len l.right (l.fn.run.last + 1 - l.right))) (pairs_with l.left (run_numbers l.fn.run));
}
