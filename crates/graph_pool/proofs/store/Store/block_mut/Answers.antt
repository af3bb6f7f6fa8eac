use Rattle.std.proofs.Common.{refl, ◌<◌, ◌/◌, ℕ, sym, subst}
use Rattle.graph_pool.specs.declared.store.TheConstants.{CHUNK}
use Rattle.graph_pool.proofs.StoreLemmas.{low_of, laid_at, chunk_there, offset_fits, words_are, words_many, lent_store, laid_lent}
use Rattle.graph_pool.proofs.store.Store.block_mut.Goals as goal

pub index-requires : goal.index-requires
index-requires c =
    let i = c.self.inside in
    subst (λ (k : ℕ). c.args.at / CHUNK < k) (sym i.chunks.ok.0) (chunk_there i.alloc i.size i.chunks.items i.segments.all c.args.at c.self.invariant.laid (low_of i.size i.segments.all c.args.self.now c.args.at c.self.view_is c.requires))

pub overflow_mul-from : goal.overflow_mul-from
overflow_mul-from c =
    let i = c.self.inside in
    record { fits = offset_fits i.alloc i.size i.chunks.items i.segments.all c.args.at c.index.result.now c.self.invariant.laid (low_of i.size i.segments.all c.args.self.now c.args.at c.self.view_is c.requires) }

pub words_mut-requires : goal.words_mut-requires
words_mut-requires c =
    let i = c.self.inside in
    laid_at i.alloc i.size i.chunks.items i.segments.all c.args.at c.index.result.now _ c.self.invariant.laid (low_of i.size i.segments.all c.args.self.now c.args.at c.self.view_is c.requires) c.index.ensures

pub invariant_of-self-lent : goal.invariant_of-self-lent
invariant_of-self-lent c =
    let i = c.self.inside in
    λ w. record { laid = laid_lent i.alloc i.size i.chunks.items i.segments.all c.args.at w (low_of i.size i.segments.all c.args.self.now c.args.at c.self.view_is c.requires) c.self.invariant.laid; zeros = c.self.invariant.zeros }

pub returns : goal.returns
returns c =
    let i = c.self.inside in
    let low = low_of i.size i.segments.all c.args.self.now c.args.at c.self.view_is c.requires in (
      (refl, λ w. lent_store i.alloc i.size i.chunks.items i.segments.all c.args.self.now c.args.at w c.self.invariant.laid low c.self.view_is),
      record {
        writes_back = tt;
        words = words_are i.size i.segments.all c.args.self.now c.args.at c.words_mut.result.now c.self.view_is low c.words_mut.ensures.words;
        size = words_many i.alloc i.size i.chunks.items i.segments.all c.args.self.now c.args.at c.words_mut.result.now c.self.view_is c.self.invariant.laid low c.words_mut.ensures.words;
      },
    )
