use Rattle.std.proofs.Common.{All, take}
use Rattle.log_check.specs.Blocks.{IsRowBelow}
use Rattle.log_check.proofs.blocks.is_block_below.Given as goal

abbrev pub invariant-loop-row : goal.invariant-loop-row
invariant-loop-row l = All (IsRowBelow l.states) (take l.row-index l.block.rows)
