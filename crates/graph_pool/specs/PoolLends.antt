-- What a pool ends as, once a `&mut` into it has ended.
use Rattle.std.specs.Prelude.{ℕ, List}
use Rattle.std.specs.Borrow.{Fml, MutBor, Array, Lends, u64}
use Rattle.graph_pool.specs.PoolContents.{PoolContents, with_words}
use Rattle.graph_pool.specs.contracts.pool.Pool.{the_row}

-- The words under the handle are the last ones written through r, and nothing else has changed.
abbrev pub LendsWords : MutBor PoolContents → ℕ → MutBor (List ℕ) → Fml
LendsWords p h r = Lends the_row (Array u64 0) p r (with_words p.now h)
