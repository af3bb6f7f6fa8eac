use Rattle.std.proofs.Common.{rules, ℕ, List, [], Option, sym, ap, ◌∙◌}
use Rattle.std.specs.Option.{unwrap_or}
use Rattle.shared_graphs.specs.GraphBlocks.{Blocks}
use Rattle.shared_graphs.specs.Graphs.{block_at}
use Rattle.shared_graphs.proofs.ShareLemmas.{handle_live, words_here}
use Rattle.shared_graphs.proofs.graph_blocks.GraphBlocks.block.Goals as goal

pub block-requires : goal.block-requires
block-requires c = handle_live c.self.inside.blocks.items c.self.inside.fresh.0 c.self.inside.pool.blocks c.args.number c.index.result.now (search rules) c.index.ensures c.self.invariant.live

pub returns : goal.returns
returns c =
    ap (λ (o : Option (List ℕ)). unwrap_or o []) c.block.ensures.words
    ∙ sym (words_here c.self.inside.blocks.items c.self.inside.pool.blocks c.args.number c.index.result.now (search rules) c.index.ensures)
    ∙ ap (λ (b : Blocks). block_at b.items c.args.number) c.self.view_is
