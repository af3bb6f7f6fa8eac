use Rattle.std.proofs.Common.{refl, true, Some, ◌≡◌, ℕ, List, ap, sym, ◌∙◌}
use Rattle.std.specs.FinMap as map
use Rattle.graph_pool.specs.PoolContents.{PoolContents}
use Rattle.graph_pool.specs.Backing.{live_blocks}
use Rattle.graph_pool.proofs.LiveBlocks.{live_words}
use Rattle.graph_pool.proofs.PoolLemmas.{lent_pool, pool_lent, words_long}
use Rattle.graph_pool.proofs.pool.Pool.block_mut.Goals as goal

pub block_mut-requires : goal.block_mut-requires
block_mut-requires c =
    let live : map.contains_key (live_blocks c.self.inside.marks.items c.self.inside.store.blocks) c.args.h.0 ≡ true = ap (λ (x : PoolContents). map.contains_key x.blocks c.args.h.0) c.self.view_is ∙ c.requires in
    (live_words c.self.inside.marks.items c.self.inside.store.blocks c.args.h.0 live).0

pub invariant_of-self-lent : goal.invariant_of-self-lent
invariant_of-self-lent c =
    let live : map.contains_key (live_blocks c.self.inside.marks.items c.self.inside.store.blocks) c.args.h.0 ≡ true = ap (λ (x : PoolContents). map.contains_key x.blocks c.args.h.0) c.self.view_is ∙ c.requires in
    λ w. pool_lent c.self.inside c.args.h.0 w live c.self.invariant

pub returns : goal.returns
returns c =
    let live : map.contains_key (live_blocks c.self.inside.marks.items c.self.inside.store.blocks) c.args.h.0 ≡ true = ap (λ (x : PoolContents). map.contains_key x.blocks c.args.h.0) c.self.view_is ∙ c.requires in (
      (refl, λ w. lent_pool c.args.self.now c.self.inside.store.size c.self.inside.free c.self.inside.marks.items c.self.inside.store.blocks c.args.h.0 w c.self.view_is live),
      record { writes_back = tt; words = ap (λ (l : List ℕ). Some l) c.block_mut.ensures.words ∙ sym ((live_words c.self.inside.marks.items c.self.inside.store.blocks c.args.h.0 live).3) ∙ ap (λ (x : PoolContents). map.get x.blocks c.args.h.0) c.self.view_is; size = words_long c.self.inside c.args.self.now c.args.h.0 c.block_mut.result.now (ap (λ (x : PoolContents). x.words) c.self.view_is) c.self.invariant (live_words c.self.inside.marks.items c.self.inside.store.blocks c.args.h.0 live).0 c.block_mut.ensures.words },
    )
