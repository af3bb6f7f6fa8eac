use Rattle.std.proofs.Common.{rules, refl, ◌≡◌, ◌<◌, ◌≤◌, ◌+◌, ◌++◌, ◌^◌, length, vec_capacity, replicate, ap, sym, subst, ◌∙◌}
use Rattle.std.specs.FinMap as map
use Rattle.graph_pool.specs.PoolContents.{PoolContents}
use Rattle.graph_pool.specs.Backing.{live_blocks}
use Rattle.graph_pool.specs.declared.store.TheConstants.{CHUNK}
use Rattle.graph_pool.proofs.PoolLemmas.{pool_grown}
use Rattle.graph_pool.proofs.pool.Pool.make_room.Goals as goal

pub invariant_of-self-2 : goal.invariant_of-self-2
invariant_of-self-2 c =
    let none : c.self.inside.free ≡ 0 = ap (λ (x : PoolContents). x.free) c.self.view_is ∙ c.requires.none in
    let few : map.len (live_blocks c.self.inside.marks.items c.self.inside.store.blocks) + 1 < 2 ^ 32 = subst (λ (x : PoolContents). map.len x.blocks + 1 < 2 ^ 32) (sym c.self.view_is) c.requires.few in
    let blocks : c.grow.new.self.blocks ≡ c.self.inside.store.blocks ++ replicate CHUNK (replicate c.self.inside.store.size 0) = search rules in
    let size : c.grow.new.self.size ≡ c.self.inside.store.size = search rules in
    let wide : length c.self.inside.marks.items + CHUNK ≤ vec_capacity c.reserve.new.self = search rules in
    (pool_grown c.self.inside (record { store = c.grow.new.self; marks = c.reserve.new.self; next = c.self.inside.next; live = c.self.inside.live; free = CHUNK })
    c.self.invariant none few size blocks c.reserve.ensures.items wide refl refl refl).0

pub returns-clause-made : goal.returns-clause-made
returns-clause-made c =
    let none : c.self.inside.free ≡ 0 = ap (λ (x : PoolContents). x.free) c.self.view_is ∙ c.requires.none in
    let few : map.len (live_blocks c.self.inside.marks.items c.self.inside.store.blocks) + 1 < 2 ^ 32 = subst (λ (x : PoolContents). map.len x.blocks + 1 < 2 ^ 32) (sym c.self.view_is) c.requires.few in
    let blocks : c.grow.new.self.blocks ≡ c.self.inside.store.blocks ++ replicate CHUNK (replicate c.self.inside.store.size 0) = search rules in
    let size : c.grow.new.self.size ≡ c.self.inside.store.size = search rules in
    let wide : length c.self.inside.marks.items + CHUNK ≤ vec_capacity c.reserve.new.self = search rules in
    let blocks = (pool_grown c.self.inside (record { store = c.grow.new.self; marks = c.reserve.new.self; next = c.self.inside.next; live = c.self.inside.live; free = CHUNK })
    c.self.invariant none few size blocks c.reserve.ensures.items wide refl refl refl).1 in
    (size ∙ ap (λ (x : PoolContents). x.words) c.self.view_is, blocks ∙ ap (λ (x : PoolContents). x.blocks) c.self.view_is, refl)
