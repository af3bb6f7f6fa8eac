use Rattle.std.proofs.Common.{rules, arith, refl, true, false, ◌≡◌, ◌+◌, ◌-◌, slice_set, ap, ◌∙◌}
use Rattle.std.specs.Vec.{with_item}
use Rattle.std.specs.FinMap as map
use Rattle.graph_pool.specs.PoolContents.{PoolContents}
use Rattle.graph_pool.specs.Backing.{live_blocks, IsPool}
use Rattle.graph_pool.proofs.LiveBlocks.{live_words}
use Rattle.graph_pool.proofs.PoolLemmas.{pool_taken, some_live}
use Rattle.graph_pool.proofs.pool.Pool.give_back.Goals as goal

pub set_link-requires-clause-inside : goal.set_link-requires-clause-inside
set_link-requires-clause-inside c =
    let live : map.contains_key (live_blocks c.self.inside.marks.items c.self.inside.store.blocks) c.args.h.0 ≡ true = ap (λ (x : PoolContents). map.contains_key x.blocks c.args.h.0) c.self.view_is ∙ c.requires in
    (live_words c.self.inside.marks.items c.self.inside.store.blocks c.args.h.0 live).0

pub index_mut-requires : goal.index_mut-requires
index_mut-requires c =
    let live : map.contains_key (live_blocks c.self.inside.marks.items c.self.inside.store.blocks) c.args.h.0 ≡ true = ap (λ (x : PoolContents). map.contains_key x.blocks c.args.h.0) c.self.view_is ∙ c.requires in
    let low = (live_words c.self.inside.marks.items c.self.inside.store.blocks c.args.h.0 live).1 in
    search rules

pub overflow_sub-self : goal.overflow_sub-self
overflow_sub-self c =
    let live : map.contains_key (live_blocks c.self.inside.marks.items c.self.inside.store.blocks) c.args.h.0 ≡ true = ap (λ (x : PoolContents). map.contains_key x.blocks c.args.h.0) c.self.view_is ∙ c.requires in
    let some = some_live (live_blocks c.self.inside.marks.items c.self.inside.store.blocks) c.args.h.0 live in
    let lives = c.self.invariant.lives in
    omega arith

-- The pool with the block taken back.
taken : (c : goal.After-self-4-1) → IsPool (record { store = c.set_link.new.self; marks = with_item c.self.inside.marks c.args.h.0 false; next = c.args.h.0 + 1; live = c.self.inside.live - 1; free = c.self.inside.free + 1 })
    × (live_blocks (slice_set c.self.inside.marks.items c.args.h.0 false) c.set_link.new.self.blocks ≡ map.remove (live_blocks c.self.inside.marks.items c.self.inside.store.blocks) c.args.h.0)
taken c =
    let live : map.contains_key (live_blocks c.self.inside.marks.items c.self.inside.store.blocks) c.args.h.0 ≡ true = ap (λ (x : PoolContents). map.contains_key x.blocks c.args.h.0) c.self.view_is ∙ c.requires in
    let some = some_live (live_blocks c.self.inside.marks.items c.self.inside.store.blocks) c.args.h.0 live in
    let lives = c.self.invariant.lives in
    pool_taken c.self.inside (record { store = c.set_link.new.self; marks = with_item c.self.inside.marks c.args.h.0 false; next = c.args.h.0 + 1; live = c.self.inside.live - 1; free = c.self.inside.free + 1 })
    c.args.h.0 live c.self.invariant c.set_link.ensures refl refl refl (omega arith) refl

pub invariant_of-self : goal.invariant_of-self
invariant_of-self c = (taken c).0

pub returns-clause-blocks : goal.returns-clause-blocks
returns-clause-blocks c = (taken c).1 ∙ ap (λ (x : PoolContents). map.remove x.blocks c.args.h.0) c.self.view_is
