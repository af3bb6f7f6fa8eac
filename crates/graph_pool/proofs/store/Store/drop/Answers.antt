use Rattle.std.proofs.Common.{◌≡◌, ◌∷◌, ◌++◌, List, [], sym, subst}
use Rattle.graph_pool.specs.Segments.{Segment}
use Rattle.graph_pool.specs.Chunks.{IsLaid}
use Rattle.graph_pool.specs.declared.store.Chunk.{Chunk}
use Rattle.graph_pool.proofs.StoreLemmas.{ends_at, laid_freed, last_chunk}
use Rattle.graph_pool.proofs.store.Store.drop.Goals as goal

pub free-requires-clause-ends : goal.free-requires-clause-ends
free-requires-clause-ends c =
    let items : c.loop-chunk.chunks.items ≡ c.pop.new.self.items ++ c.in-Some.chunk ∷ [] = c.in-Some.ensures.items in
    ends_at c.self.inside.alloc c.self.inside.size c.pop.new.self.items c.in-Some.chunk c.loop-chunk.segments.all
    (subst (λ (l : List Chunk). IsLaid c.self.inside.alloc c.self.inside.size l c.loop-chunk.segments.all) items c.loop-chunk.invariant)

pub free-requires-clause-chunk : goal.free-requires-clause-chunk
free-requires-clause-chunk c =
    let items : c.loop-chunk.chunks.items ≡ c.pop.new.self.items ++ c.in-Some.chunk ∷ [] = c.in-Some.ensures.items in
    last_chunk c.self.inside.alloc c.self.inside.size c.pop.new.self.items c.in-Some.chunk
    (subst (λ (l : List Chunk). IsLaid c.self.inside.alloc c.self.inside.size l c.loop-chunk.segments.all) items c.loop-chunk.invariant).chunks

pub loop-chunk-preserved : goal.loop-chunk-preserved
loop-chunk-preserved c =
    let items : c.loop-chunk.chunks.items ≡ c.pop.new.self.items ++ c.in-Some.chunk ∷ [] = c.in-Some.ensures.items in
    subst (λ (l : List Segment). IsLaid c.self.inside.alloc c.self.inside.size c.pop.new.self.items l) (sym c.free.ensures)
    (laid_freed c.self.inside.alloc c.self.inside.size c.pop.new.self.items c.in-Some.chunk c.loop-chunk.segments.all
    (subst (λ (l : List Chunk). IsLaid c.self.inside.alloc c.self.inside.size l c.loop-chunk.segments.all) items c.loop-chunk.invariant))
