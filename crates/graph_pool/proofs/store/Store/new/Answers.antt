use Rattle.std.proofs.Common.{arith, inl, ◌≡◌, List, [], length, map, ap}
use Rattle.std.proofs.lemmas.List.Elements.{All-nil, All-same}
use Rattle.graph_pool.specs.Segments.{Segment}
use Rattle.graph_pool.specs.Chunks.{IsChunk}
use Rattle.graph_pool.specs.declared.store.Chunk.{Chunk}
use Rattle.graph_pool.proofs.store.Store.new.Goals as goal

pub returns-clause-blocks : goal.returns-clause-blocks
returns-clause-blocks c = ap (λ (l : List Segment). map (λ (r : Segment). r.1) l) c.new-2.ensures

pub invariant_of-result : goal.invariant_of-result
invariant_of-result c =
    let none : length c.new-2.result.all ≡ 0 = ap (λ (l : List Segment). length l) c.new-2.ensures in
    let empty : length c.new.result.items ≡ 0 = ap (λ (l : List Chunk). length l) c.new.ensures.items in
    record {
      laid = record { many = omega arith; chunks = All-same (IsChunk c.args.alloc c.args.size) c.new.result.items [] c.new.ensures.items (All-nil (IsChunk c.args.alloc c.args.size)); blocks = λ i low. absurd (omega arith) };
      zeros = inl c.new-3.ensures.items;
    }
