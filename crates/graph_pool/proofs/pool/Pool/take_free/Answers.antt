use Rattle.std.proofs.Common.{rules, arith, refl, true, ◌≡◌, ◌<◌, ◌+◌, ◌-◌, ℕ, [], length, get_or, vec_capacity, ap, sym, subst, ◌∙◌}
use Rattle.std.specs.Vec.{with_item}
use Rattle.std.specs.FinMap as map
use Rattle.std.proofs.lemmas.List.Elements.{All-get_or}
use Rattle.graph_pool.specs.PoolContents.{PoolContents}
use Rattle.graph_pool.specs.Backing.{IsPool}
use Rattle.graph_pool.specs.declared.pool.Pool.TheInside.{Inside}
use Rattle.graph_pool.proofs.PoolLemmas.{pool_pushed, pool_relinked, linked_low}
use Rattle.graph_pool.proofs.LinkLemmas.{chain_end}
use Rattle.graph_pool.proofs.pool.Pool.take_free.Goals as goal

-- Where no block is linked, some block has no mark yet.
unmarked : (p : Inside) → IsPool p → 0 < p.free → p.next ≡ 0 → length p.marks.items < length p.store.blocks
unmarked p i some end =
    let none = chain_end p.store.blocks p.marks.items p.next i.back end i.chain in
    let free = i.free in
    omega arith

pub push_reserved-requires : goal.push_reserved-requires
push_reserved-requires c =
    let p : Inside = c.self.inside in
    let some : 0 < p.free = subst (λ (x : PoolContents). 0 < x.free) (sym c.self.view_is) c.requires.some in
    let end : p.next ≡ 0 = search rules in
    let low = unmarked p c.self.invariant some end in
    let roomy = c.self.invariant.roomy in
    subst (λ (k : ℕ). k < vec_capacity p.marks) (sym p.marks.ok.0) (omega arith)

pub overflow_cast-result : goal.overflow_cast-result
overflow_cast-result c =
    let p : Inside = c.self.inside in
    let some : 0 < p.free = subst (λ (x : PoolContents). 0 < x.free) (sym c.self.view_is) c.requires.some in
    let end : p.next ≡ 0 = search rules in
    let low = unmarked p c.self.invariant some end in
    let few = c.self.invariant.few in
    let is : c.len-fresh.result ≡ length p.marks.items = c.len-fresh.ensures ∙ p.marks.ok.0 in
    record { fits = omega arith }

pub invariant_of-self : goal.invariant_of-self
invariant_of-self c =
    let p : Inside = c.self.inside in
    let some : 0 < p.free = subst (λ (x : PoolContents). 0 < x.free) (sym c.self.view_is) c.requires.some in
    let end : p.next ≡ 0 = search rules in
    (pool_pushed p (record { store = p.store; marks = c.push_reserved.new.self; next = p.next; live = p.live + 1; free = p.free - 1 }) c.self.invariant some end refl c.push_reserved.ensures.items c.push_reserved.ensures.capacity refl refl (omega arith)).0

pub returns-then-self-eq0-clause-added : goal.returns-then-self-eq0-clause-added
returns-then-self-eq0-clause-added c =
    let p : Inside = c.self.inside in
    let some : 0 < p.free = subst (λ (x : PoolContents). 0 < x.free) (sym c.self.view_is) c.requires.some in
    let end : p.next ≡ 0 = search rules in
    let h : ℕ = length p.marks.items in
    let is : c.len-fresh.result ≡ h = c.len-fresh.ensures ∙ p.marks.ok.0 in
    let done = pool_pushed p (record { store = p.store; marks = c.push_reserved.new.self; next = p.next; live = p.live + 1; free = p.free - 1 }) c.self.invariant some end refl c.push_reserved.ensures.items c.push_reserved.ensures.capacity refl refl (omega arith) in (
      get_or p.store.blocks h [],
      ap (λ (k : ℕ). map.get c.args.self.now.blocks k) is ∙ ap (λ (x : PoolContents). map.get x.blocks h) (sym c.self.view_is) ∙ done.2,
      All-get_or (λ ws. length ws ≡ p.store.size) p.store.blocks h [] done.1 c.self.invariant.even ∙ ap (λ (x : PoolContents). x.words) c.self.view_is,
      done.3 ∙ ap (λ (x : PoolContents). map.insert x.blocks h (get_or p.store.blocks h [])) c.self.view_is ∙ ap (λ (k : ℕ). map.insert c.args.self.now.blocks k (get_or p.store.blocks h [])) (sym is),
    )

pub link-self-inside-requires-clause-inside : goal.link-self-inside-requires-clause-inside
link-self-inside-requires-clause-inside c =
    let p : Inside = c.self.inside in
    let linked : 0 < p.next = search rules in
    (linked_low p (p.next - 1) c.self.invariant linked (omega arith)).1

pub index_mut-requires : goal.index_mut-requires
index_mut-requires c =
    let p : Inside = c.self.inside in
    let linked : 0 < p.next = search rules in
    subst (λ (k : ℕ). p.next - 1 < k) (sym p.marks.ok.0) (linked_low p (p.next - 1) c.self.invariant linked (omega arith)).0

pub overflow_cast-result-2 : goal.overflow_cast-result-2
overflow_cast-result-2 c =
    let p : Inside = c.self.inside in
    let linked : 0 < p.next = search rules in
    let low = (linked_low p (p.next - 1) c.self.invariant linked (omega arith)).1 in
    let few = c.self.invariant.few in
    record { fits = omega arith }

pub invariant_of-self-2 : goal.invariant_of-self-2
invariant_of-self-2 c =
    let p : Inside = c.self.inside in
    let some : 0 < p.free = subst (λ (x : PoolContents). 0 < x.free) (sym c.self.view_is) c.requires.some in
    let linked : 0 < p.next = search rules in
    (pool_relinked p (record { store = p.store; marks = with_item p.marks (p.next - 1) true; next = c.link-self-inside.result; live = p.live + 1; free = p.free - 1 }) (p.next - 1) c.self.invariant linked (omega arith) refl refl refl c.link-self-inside.ensures refl (omega arith)).0

pub returns-clause-added : goal.returns-clause-added
returns-clause-added c =
    let p : Inside = c.self.inside in
    let some : 0 < p.free = subst (λ (x : PoolContents). 0 < x.free) (sym c.self.view_is) c.requires.some in
    let linked : 0 < p.next = search rules in
    let h : ℕ = p.next - 1 in
    let low = (linked_low p h c.self.invariant linked (omega arith)).1 in
    let done = pool_relinked p (record { store = p.store; marks = with_item p.marks h true; next = c.link-self-inside.result; live = p.live + 1; free = p.free - 1 }) h c.self.invariant linked (omega arith) refl refl refl c.link-self-inside.ensures refl (omega arith) in (
      get_or p.store.blocks h [],
      ap (λ (x : PoolContents). map.get x.blocks h) (sym c.self.view_is) ∙ done.1,
      All-get_or (λ ws. length ws ≡ p.store.size) p.store.blocks h [] low c.self.invariant.even ∙ ap (λ (x : PoolContents). x.words) c.self.view_is,
      done.2 ∙ ap (λ (x : PoolContents). map.insert x.blocks h (get_or p.store.blocks h [])) c.self.view_is,
    )
