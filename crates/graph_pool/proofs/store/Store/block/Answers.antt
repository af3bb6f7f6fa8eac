use Rattle.std.proofs.Common.{◌<◌, ◌/◌, ℕ, sym, subst}
use Rattle.graph_pool.specs.declared.store.TheConstants.{CHUNK}
use Rattle.graph_pool.proofs.StoreLemmas.{low_of, laid_at, chunk_there, offset_fits, words_are, words_many}
use Rattle.graph_pool.proofs.store.Store.block.Goals as goal

pub index-requires : goal.index-requires
index-requires c =
    let i = c.self.inside in
    subst (λ (k : ℕ). c.args.at / CHUNK < k) (sym i.chunks.ok.0) (chunk_there i.alloc i.size i.chunks.items i.segments.all c.args.at c.self.invariant.laid (low_of i.size i.segments.all c.args.self.now c.args.at c.self.view_is c.requires))

pub overflow_mul-from : goal.overflow_mul-from
overflow_mul-from c =
    let i = c.self.inside in
    record { fits = offset_fits i.alloc i.size i.chunks.items i.segments.all c.args.at c.index.result.now c.self.invariant.laid (low_of i.size i.segments.all c.args.self.now c.args.at c.self.view_is c.requires) }

pub words-requires : goal.words-requires
words-requires c =
    let i = c.self.inside in
    laid_at i.alloc i.size i.chunks.items i.segments.all c.args.at c.index.result.now _ c.self.invariant.laid (low_of i.size i.segments.all c.args.self.now c.args.at c.self.view_is c.requires) c.index.ensures

pub returns-clause-words : goal.returns-clause-words
returns-clause-words c =
    let i = c.self.inside in
    words_are i.size i.segments.all c.args.self.now c.args.at c.words.result.now c.self.view_is (low_of i.size i.segments.all c.args.self.now c.args.at c.self.view_is c.requires) c.words.ensures

pub returns-clause-size : goal.returns-clause-size
returns-clause-size c =
    let i = c.self.inside in
    words_many i.alloc i.size i.chunks.items i.segments.all c.args.self.now c.args.at c.words.result.now c.self.view_is c.self.invariant.laid (low_of i.size i.segments.all c.args.self.now c.args.at c.self.view_is c.requires) c.words.ensures
