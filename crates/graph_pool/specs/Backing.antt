-- How `Pool` holds its contents.
use Rattle.std.specs.Prelude.{ℕ, Bool, true, false, ◌≡◌, ◌+◌, ◌-◌, ◌<◌, ◌≤◌, ◌^◌, ◌%◌, List, [], ◌∷◌, length, vec_capacity, All}
use Rattle.std.specs.Ordering.{nat_cmp}
use Rattle.std.specs.FinMap as map
use Rattle.graph_pool.specs.PoolContents.{PoolContents}
use Rattle.graph_pool.specs.Links.{IsChain}
use Rattle.graph_pool.specs.declared.pool.Pool.TheInside.{Inside}
use Rattle.graph_pool.specs.declared.store.TheConstants.{CHUNK}

-- The marked ones of the blocks, under their numbers, the first being h.
abbrev pub live_blocks_from : ℕ → List Bool → List (List ℕ) → map.FinMap nat_cmp (List ℕ)
live_blocks_from h [] bs = map.empty
live_blocks_from h (m ∷ ms) [] = map.empty
live_blocks_from h (true ∷ ms) (b ∷ bs) = map.insert (live_blocks_from (h + 1) ms bs) h b
live_blocks_from h (false ∷ ms) (b ∷ bs) = live_blocks_from (h + 1) ms bs

-- The marked ones of the blocks, under their numbers.
unfoldable pub live_blocks : List Bool → List (List ℕ) → map.FinMap nat_cmp (List ℕ)
live_blocks ms bs = live_blocks_from 0 ms bs

-- The contents that the fields stand for.
abbrev pub pool_contents : Inside → PoolContents
pool_contents p =
    record {
      words = p.store.size;
      blocks = live_blocks p.marks.items p.store.blocks;
      free = p.free;
    }

-- The fields fit one another. Each block that was ever given out has a mark, which tells whether it
-- is live; those that were given back are linked.
pub record IsPool (p : Inside) : Type 0 where
  pub some : 0 < p.store.size
  pub even : All (λ ws. length ws ≡ p.store.size) p.store.blocks
  pub used : length p.marks.items ≤ length p.store.blocks
  pub roomy : length p.store.blocks ≤ vec_capacity p.marks
  pub few : length p.store.blocks ≤ 2 ^ 32
  pub chunked : length p.store.blocks % CHUNK ≡ 0
  pub back : List ℕ
  pub chain : IsChain p.store.blocks p.marks.items p.next back
  pub free : length back + (length p.store.blocks - length p.marks.items) ≡ p.free
  pub total : map.len (live_blocks p.marks.items p.store.blocks) + p.free ≡ length p.store.blocks
  pub lives : map.len (live_blocks p.marks.items p.store.blocks) ≡ p.live
