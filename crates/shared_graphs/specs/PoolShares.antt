-- How `GraphBlocks` holds the blocks of graphs.
use Rattle.std.specs.Prelude.{ℕ, ◌+◌, ◌≤◌, length, List, [], ◌∷◌, ◌++◌, map as each, unwrap_or, IsTrue}
use Rattle.std.specs.Ordering.{nat_cmp}
use Rattle.std.specs.FinMap as map
use Rattle.graph_pool.specs.declared.pool.Handle.{Handle}
use Rattle.shared_graphs.specs.GraphBlocks.{Blocks}
use Rattle.shared_graphs.specs.declared.graph_blocks.GraphBlocks.TheInside.{Inside}

-- The numbers of handles.
abbrev pub handles : List Handle → List ℕ
handles hs = each (λ (h : Handle). h.0) hs

-- The map without the blocks of these handles.
abbrev pub all_but : map.FinMap nat_cmp (List ℕ) → List ℕ → map.FinMap nat_cmp (List ℕ)
all_but m [] = m
all_but m (h ∷ hs) = all_but (map.remove m h) hs

-- The handles are live, and no two are the same.
abbrev pub AllLive : map.FinMap nat_cmp (List ℕ) → List ℕ → Type 0
AllLive m [] = Unit
AllLive m (h ∷ hs) = IsTrue (map.contains_key m h) × AllLive (map.remove m h) hs

-- The words of the block with this handle.
abbrev pub words_under : map.FinMap nat_cmp (List ℕ) → ℕ → List ℕ
words_under m h = unwrap_or (map.get m h) []

-- The handles of the blocks of graphs and then of the fresh one.
abbrev pub all_handles : Inside → List ℕ
all_handles b = handles b.blocks.items ++ b.fresh.0 ∷ []

-- What the fields stand for.
abbrev pub shares_of : Inside → Blocks
shares_of b = record {
  words = b.pool.words;
  rest = all_but b.pool.blocks (all_handles b);
  free_before = b.free_before;
  items = each (words_under b.pool.blocks) (handles b.blocks.items);
  fresh = words_under b.pool.blocks b.fresh.0;
}

-- The blocks are live, and with the free ones they are at least as many as were free before.
pub record AreLive (b : Inside) : Type 0 where
  pub live : AllLive b.pool.blocks (all_handles b)
  pub enough : b.free_before ≤ b.pool.free + length b.blocks.items + 1
