use Rattle.std.proofs.Common.{rules, false, nat_lt, ◌≡◌, ◌<◌, ◌≤◌, ℕ, List, length, is_some, Option, ap, sym, ◌∙◌}
use Rattle.std.specs.FinMap as map
use Rattle.graph_pool.specs.PoolContents.{PoolContents}
use Rattle.graph_pool.proofs.LiveBlocks.{contains_live, get-past}
use Rattle.graph_pool.proofs.pool.Pool.is_live.Goals as goal

pub returns-then-h-len : goal.returns-then-h-len
returns-then-h-len c =
    let low : c.args.h.0 < length c.self.inside.marks.items = search rules in
    c.index.ensures ∙ sym (contains_live c.self.inside.marks.items c.self.inside.store.blocks c.args.h.0 _ c.self.invariant.used low) ∙ ap (λ (x : PoolContents). map.contains_key x.blocks c.args.h.0) c.self.view_is

pub returns-else-h-len : goal.returns-else-h-len
returns-else-h-len c =
    let high : length c.self.inside.marks.items ≤ c.args.h.0 = search rules in
    let told : nat_lt c.args.h.0 c.len.result ≡ false = search rules in
    told ∙ sym (ap (λ (o : Option (List ℕ)). is_some o) (get-past c.self.inside.marks.items c.self.inside.store.blocks c.args.h.0 high)) ∙ ap (λ (x : PoolContents). map.contains_key x.blocks c.args.h.0) c.self.view_is
