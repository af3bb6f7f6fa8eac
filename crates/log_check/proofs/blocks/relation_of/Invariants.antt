use Rattle.std.proofs.Common.{◌≡◌, [], drop}
use Rattle.std.specs.List.{flat_map}
use Rattle.log_check.specs.Blocks.{pairs_of_row, pairs_of}
use Rattle.log_check.proofs.BlockLemmas.{Completes}
use Rattle.log_check.proofs.blocks.relation_of.Given as goal

abbrev pub invariant-loop-row : goal.invariant-loop-row
invariant-loop-row l = record {
  size : l.rel.size ≡ l.states;
  rest : Completes [] l.rel.pairs (flat_map pairs_of_row (drop l.row-index l.block.rows)) (pairs_of l.block);
}
