use Rattle.shared_graphs.specs.PoolShares.{handles}
use Rattle.shared_graphs.proofs.ShareLemmas.{last_live}
use Rattle.shared_graphs.proofs.graph_blocks.GraphBlocks.fresh_block.Goals as goal

pub block-requires : goal.block-requires
block-requires c = last_live (handles c.self.inside.blocks.items) c.self.inside.pool.blocks c.self.inside.fresh.0 c.self.invariant.live
