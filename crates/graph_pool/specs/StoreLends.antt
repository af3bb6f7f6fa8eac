-- What a store ends as, once a `&mut` into it has ended.
use Rattle.std.specs.Prelude.{ℕ, List}
use Rattle.std.specs.Borrow.{Fml, MutBor, Array, Lends, u64}
use Rattle.graph_pool.specs.BlockList.{BlockList, with_block}
use Rattle.graph_pool.specs.contracts.store.Store.{the_row}

-- The block at i has the last words written through r.
abbrev pub LendsBlock : MutBor BlockList → ℕ → MutBor (List ℕ) → Fml
LendsBlock s i r = Lends the_row (Array u64 0) s r (with_block s.now i)
