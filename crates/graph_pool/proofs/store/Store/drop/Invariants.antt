use Rattle.graph_pool.specs.Chunks.{IsLaid}
use Rattle.graph_pool.proofs.store.Store.drop.Given as goal

abbrev pub invariant-loop-chunk : goal.invariant-loop-chunk
invariant-loop-chunk l = IsLaid l.alloc l.size l.chunks.items l.segments.all

abbrev pub decreases-loop-chunk : goal.decreases-loop-chunk
decreases-loop-chunk l = goal.left-loop-chunk l
