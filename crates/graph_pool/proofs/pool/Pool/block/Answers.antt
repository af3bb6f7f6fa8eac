use Rattle.std.proofs.Common.{true, Some, ◌≡◌, ℕ, List, ap, sym, ◌∙◌}
use Rattle.std.specs.FinMap as map
use Rattle.graph_pool.specs.PoolContents.{PoolContents}
use Rattle.graph_pool.specs.Backing.{live_blocks}
use Rattle.graph_pool.proofs.LiveBlocks.{live_words}
use Rattle.graph_pool.proofs.pool.Pool.block.Goals as goal

pub block-requires : goal.block-requires
block-requires c =
    let live : map.contains_key (live_blocks c.self.inside.marks.items c.self.inside.store.blocks) c.args.h.0 ≡ true = ap (λ (x : PoolContents). map.contains_key x.blocks c.args.h.0) c.self.view_is ∙ c.requires in
    (live_words c.self.inside.marks.items c.self.inside.store.blocks c.args.h.0 live).0

pub returns-clause-words : goal.returns-clause-words
returns-clause-words c =
    let live : map.contains_key (live_blocks c.self.inside.marks.items c.self.inside.store.blocks) c.args.h.0 ≡ true = ap (λ (x : PoolContents). map.contains_key x.blocks c.args.h.0) c.self.view_is ∙ c.requires in
    ap (λ (l : List ℕ). Some l) c.block.ensures.words ∙ sym ((live_words c.self.inside.marks.items c.self.inside.store.blocks c.args.h.0 live).3) ∙ ap (λ (x : PoolContents). map.get x.blocks c.args.h.0) c.self.view_is
