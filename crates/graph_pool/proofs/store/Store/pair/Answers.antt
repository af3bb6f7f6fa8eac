use Rattle.std.proofs.Common.{refl, ◌<◌, ◌/◌, ℕ, sym, subst}
use Rattle.graph_pool.specs.declared.store.TheConstants.{CHUNK}
use Rattle.graph_pool.proofs.StoreLemmas.{low_of, laid_at, chunk_there, offset_fits, words_are, lent_store, laid_lent}
use Rattle.graph_pool.proofs.store.Store.pair.Goals as goal

pub index-requires : goal.index-requires
index-requires c =
    let i = c.self.inside in
    subst (λ (k : ℕ). c.args.kept / CHUNK < k) (sym i.chunks.ok.0) (chunk_there i.alloc i.size i.chunks.items i.segments.all c.args.kept c.self.invariant.laid (low_of i.size i.segments.all c.args.self.now c.args.kept c.self.view_is c.requires.kept))

pub index-requires-2 : goal.index-requires-2
index-requires-2 c =
    let i = c.self.inside in
    subst (λ (k : ℕ). c.args.fresh / CHUNK < k) (sym i.chunks.ok.0) (chunk_there i.alloc i.size i.chunks.items i.segments.all c.args.fresh c.self.invariant.laid (low_of i.size i.segments.all c.args.self.now c.args.fresh c.self.view_is c.requires.fresh))

pub overflow_mul-from : goal.overflow_mul-from
overflow_mul-from c =
    let i = c.self.inside in
    record { fits = offset_fits i.alloc i.size i.chunks.items i.segments.all c.args.kept c.index.result.now c.self.invariant.laid (low_of i.size i.segments.all c.args.self.now c.args.kept c.self.view_is c.requires.kept) }

pub overflow_mul-to : goal.overflow_mul-to
overflow_mul-to c =
    let i = c.self.inside in
    record { fits = offset_fits i.alloc i.size i.chunks.items i.segments.all c.args.fresh c.index-2.result.now c.self.invariant.laid (low_of i.size i.segments.all c.args.self.now c.args.fresh c.self.view_is c.requires.fresh) }

pub pair-requires : goal.pair-requires
pair-requires c =
    let i = c.self.inside in
    let one = laid_at i.alloc i.size i.chunks.items i.segments.all c.args.kept c.index.result.now _ c.self.invariant.laid (low_of i.size i.segments.all c.args.self.now c.args.kept c.self.view_is c.requires.kept) c.index.ensures in
    let two = laid_at i.alloc i.size i.chunks.items i.segments.all c.args.fresh c.index-2.result.now _ c.self.invariant.laid (low_of i.size i.segments.all c.args.self.now c.args.fresh c.self.view_is c.requires.fresh) c.index-2.ensures in
    (c.requires.apart, one.0, one.1, two.0, two.1)

pub invariant_of-self-lent : goal.invariant_of-self-lent
invariant_of-self-lent c =
    let i = c.self.inside in
    λ w. record { laid = laid_lent i.alloc i.size i.chunks.items i.segments.all c.args.fresh w (low_of i.size i.segments.all c.args.self.now c.args.fresh c.self.view_is c.requires.fresh) c.self.invariant.laid; zeros = c.self.invariant.zeros }

pub returns : goal.returns
returns c =
    let i = c.self.inside in
    let low = low_of i.size i.segments.all c.args.self.now c.args.fresh c.self.view_is c.requires.fresh in
    let there = low_of i.size i.segments.all c.args.self.now c.args.kept c.self.view_is c.requires.kept in (
      (refl, λ w. lent_store i.alloc i.size i.chunks.items i.segments.all c.args.self.now c.args.fresh w c.self.invariant.laid low c.self.view_is),
      record {
        writes_back = tt;
        kept = words_are i.size i.segments.all c.args.self.now c.args.kept c.pair.result.0.now c.self.view_is there c.pair.ensures.value.0;
        fresh = words_are i.size i.segments.all c.args.self.now c.args.fresh c.pair.result.1.now c.self.view_is low c.pair.ensures.value.1;
      },
    )
