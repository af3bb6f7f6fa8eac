-- What the segments end as, once a `&mut` into them has ended.
use Rattle.std.specs.Prelude.{ℕ, List}
use Rattle.std.specs.Borrow.{Fml, MutBor, Array, Lends, u64}
use Rattle.graph_pool.specs.Segments.{Segment, rewritten}
use Rattle.graph_pool.specs.declared.segments.Segments.{Segments}
use Rattle.graph_pool.specs.contracts.segments.Segments.{the_row}

-- The owner of other segments.
abbrev pub with_segments : Segments → List Segment → Segments
with_segments s ss = record { mark = s.mark; all = ss }

-- The segment at i has the last words written through r.
abbrev pub LendsSegment : MutBor Segments → ℕ → MutBor (List ℕ) → Fml
LendsSegment s i r =
    Lends the_row (Array u64 0) s r (λ ws. with_segments s.now (rewritten s.now.all i ws))
