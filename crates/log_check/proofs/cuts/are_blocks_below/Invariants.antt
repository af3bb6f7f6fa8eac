use Rattle.std.proofs.Common.{All, take}
use Rattle.log_check.specs.Blocks.{IsBlockBelow}
use Rattle.log_check.proofs.cuts.are_blocks_below.Given as goal

abbrev pub invariant-loop-block : goal.invariant-loop-block
invariant-loop-block l = All (IsBlockBelow l.states) (take l.block-index l.blocks)
