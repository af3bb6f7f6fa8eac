use Rattle.std.proofs.Common.{refl, true, Some, ◌≡◌, ℕ, List, ap, sym, ◌∙◌}
use Rattle.std.specs.FinMap as map
use Rattle.graph_pool.specs.PoolContents.{PoolContents}
use Rattle.graph_pool.specs.Backing.{live_blocks}
use Rattle.graph_pool.proofs.LiveBlocks.{live_words}
use Rattle.graph_pool.proofs.PoolLemmas.{lent_pool, pool_lent, words_long}
use Rattle.graph_pool.proofs.pool.Pool.pair.Goals as goal

pub pair-requires-clause-kept : goal.pair-requires-clause-kept
pair-requires-clause-kept c =
    let live : map.contains_key (live_blocks c.self.inside.marks.items c.self.inside.store.blocks) c.args.kept.0 ≡ true = ap (λ (x : PoolContents). map.contains_key x.blocks c.args.kept.0) c.self.view_is ∙ c.requires.kept in
    (live_words c.self.inside.marks.items c.self.inside.store.blocks c.args.kept.0 live).0

pub pair-requires-clause-fresh : goal.pair-requires-clause-fresh
pair-requires-clause-fresh c =
    let live : map.contains_key (live_blocks c.self.inside.marks.items c.self.inside.store.blocks) c.args.fresh.0 ≡ true = ap (λ (x : PoolContents). map.contains_key x.blocks c.args.fresh.0) c.self.view_is ∙ c.requires.fresh in
    (live_words c.self.inside.marks.items c.self.inside.store.blocks c.args.fresh.0 live).0

pub invariant_of-self-lent : goal.invariant_of-self-lent
invariant_of-self-lent c =
    let live : map.contains_key (live_blocks c.self.inside.marks.items c.self.inside.store.blocks) c.args.fresh.0 ≡ true = ap (λ (x : PoolContents). map.contains_key x.blocks c.args.fresh.0) c.self.view_is ∙ c.requires.fresh in
    λ w. pool_lent c.self.inside c.args.fresh.0 w live c.self.invariant

pub returns : goal.returns
returns c =
    let live : map.contains_key (live_blocks c.self.inside.marks.items c.self.inside.store.blocks) c.args.fresh.0 ≡ true = ap (λ (x : PoolContents). map.contains_key x.blocks c.args.fresh.0) c.self.view_is ∙ c.requires.fresh in
    let kept : map.contains_key (live_blocks c.self.inside.marks.items c.self.inside.store.blocks) c.args.kept.0 ≡ true = ap (λ (x : PoolContents). map.contains_key x.blocks c.args.kept.0) c.self.view_is ∙ c.requires.kept in (
      (refl, λ w. lent_pool c.args.self.now c.self.inside.store.size c.self.inside.free c.self.inside.marks.items c.self.inside.store.blocks c.args.fresh.0 w c.self.view_is live),
      record {
        writes_back = tt;
        kept = ap (λ (l : List ℕ). Some l) c.pair.ensures.kept ∙ sym ((live_words c.self.inside.marks.items c.self.inside.store.blocks c.args.kept.0 kept).3) ∙ ap (λ (x : PoolContents). map.get x.blocks c.args.kept.0) c.self.view_is;
        fresh = ap (λ (l : List ℕ). Some l) c.pair.ensures.fresh ∙ sym ((live_words c.self.inside.marks.items c.self.inside.store.blocks c.args.fresh.0 live).3) ∙ ap (λ (x : PoolContents). map.get x.blocks c.args.fresh.0) c.self.view_is;
        kept_size = words_long c.self.inside c.args.self.now c.args.kept.0 c.pair.result.0.now (ap (λ (x : PoolContents). x.words) c.self.view_is) c.self.invariant (live_words c.self.inside.marks.items c.self.inside.store.blocks c.args.kept.0 kept).0 c.pair.ensures.kept;
        fresh_size = words_long c.self.inside c.args.self.now c.args.fresh.0 c.pair.result.1.now (ap (λ (x : PoolContents). x.words) c.self.view_is) c.self.invariant (live_words c.self.inside.marks.items c.self.inside.store.blocks c.args.fresh.0 live).0 c.pair.ensures.fresh;
      },
    )
