-- How `Store` holds its blocks.
use Rattle.std.specs.Prelude.{ℕ, ◌≡◌, ◌*◌, ◌⊎◌, List, [], map, replicate}
use Rattle.graph_pool.specs.BlockList.{BlockList}
use Rattle.graph_pool.specs.Segments.{Segment}
use Rattle.graph_pool.specs.Chunks.{IsLaid}
use Rattle.graph_pool.specs.declared.store.Store.TheInside.{Inside}
use Rattle.graph_pool.specs.declared.store.TheConstants.{CHUNK}

-- The blocks that the fields stand for.
abbrev pub blocks_of : Inside → BlockList
blocks_of s = record { size = s.size; blocks = map (λ (t : Segment). t.1) s.segments.all }

-- So many zeros, or no words yet.
abbrev pub AreZeros : ℕ → List ℕ → Type 0
AreZeros count words = (words ≡ []) ⊎ (words ≡ replicate count 0)

-- The segments are the blocks of the chunks, and what a new chunk is filled with are zeros.
pub record IsStore (s : Inside) : Type 0 where
  pub laid : IsLaid s.alloc s.size s.chunks.items s.segments.all
  pub zeros : AreZeros (CHUNK * s.size) s.zeros.items
