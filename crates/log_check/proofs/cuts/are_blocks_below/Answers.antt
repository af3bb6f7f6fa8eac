use Rattle.std.proofs.Common.{◌≡◌, true, rules}
use Rattle.log_check.specs.Blocks.{IsBlockBelow}
use Rattle.log_check.proofs.BlockLemmas.{all_more, all_told}
use Rattle.log_check.proofs.cuts.are_blocks_below.Goals as goal

pub loop-block-preserved : goal.loop-block-preserved
loop-block-preserved c =
    let is : c.is_block_below.result ≡ true = search rules in
    all_more (IsBlockBelow c.args.states) c.args.blocks.now c.loop-block.block-index c.block-item.result c.block-item.result c.loop-block-test.true c.block-item.is c.loop-block.invariant (c.is_block_below.ensures.0 is)

pub returns : goal.returns
returns c = all_told (IsBlockBelow c.args.states) c.args.blocks.now c.loop-block.block-index c.loop-block-test.false c.loop-block.invariant
