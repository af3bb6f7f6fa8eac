-- The memory of chunks.
use Rattle.std.specs.Prelude.{ℕ, ◌≡◌, ◌*◌, ◌<◌, ◌^◌, ◌/◌, ◌%◌, List, map, length, get_or, All}
use Rattle.core.specs.Mem.Slots.{lease_ptr, lease_len, lease_heap}
use denote.RawPtr.{Ptr, InBlock, null_ptr}
use Rattle.std.specs.declared.alloc.Global.{Global}
use Rattle.graph_pool.specs.Segments.{Segment, segment_at, moved}
use Rattle.graph_pool.specs.declared.store.Chunk.{Chunk}
use Rattle.graph_pool.specs.declared.store.TheConstants.{CHUNK}

-- The lease is that of the memory of a chunk's blocks of `size` words, which begins at the start.
abbrev pub IsChunk : Global → ℕ → Chunk → Type 0
IsChunk alloc size c =
    InBlock c.start.ptr × (lease_ptr c.lease ≡ c.start.ptr) × (lease_len c.lease ≡ CHUNK * size)
    × (lease_heap c.lease ≡ alloc) × (CHUNK * size * 8 < 2 ^ 63)

-- Where the chunks begin.
abbrev pub starts : List Chunk → List Ptr
starts cs = map (λ c. c.start.ptr) cs

-- The i-th segment begins where the block i % CHUNK of the chunk i / CHUNK does, and has `size`
-- words.
abbrev pub IsLaidAt : ℕ → List Chunk → List Segment → ℕ → Type 0
IsLaidAt size cs ss i =
    ((segment_at ss i).0 ≡ moved (get_or (starts cs) (i / CHUNK) null_ptr) (i % CHUNK * (size * 8)))
    × (length (segment_at ss i).1 ≡ size)

-- The segments are the blocks of the chunks.
pub record IsLaid (alloc : Global) (size : ℕ) (cs : List Chunk) (ss : List Segment) : Type 0 where
  pub many : length ss ≡ length cs * CHUNK
  pub chunks : All (IsChunk alloc size) cs
  pub blocks : (i : ℕ) → i < length ss → IsLaidAt size cs ss i
