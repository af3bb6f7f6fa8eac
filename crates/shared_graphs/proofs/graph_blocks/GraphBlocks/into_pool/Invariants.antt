use Rattle.std.proofs.Common.{◌≡◌, ◌<◌, ◌≤◌, ◌+◌, length}
use Rattle.shared_graphs.specs.PoolShares.{handles, all_but, AllLive}
use Rattle.shared_graphs.proofs.graph_blocks.GraphBlocks.into_pool.Given as goal

abbrev pub invariant-loop-block : goal.invariant-loop-block
invariant-loop-block l = record {
  live : AllLive l.pool.blocks (handles l.blocks.items);
  rest : all_but l.pool.blocks (handles l.blocks.items) ≡ l.fn.self.rest;
  words : l.pool.words ≡ l.fn.self.words;
  free : length l.fn.self.items < l.pool.free + length l.blocks.items;
  no_fewer : l.fn.self.free_before ≤ l.pool.free + length l.blocks.items;
}

abbrev pub decreases-loop-block : goal.decreases-loop-block
decreases-loop-block l = length l.blocks.items
