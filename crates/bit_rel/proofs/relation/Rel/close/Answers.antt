use Rattle.std.proofs.Common.{◌≡◌, ◌<◌, ◌↔◌, ℕ, List, length, sym, subst, rules}
use Rattle.std.proofs.lemmas.List.{with_items_is}
use Rattle.std.specs.Vec.{with_items}
use Rattle.auto_core.specs.Reach.{HasArc}
use Rattle.auto_core.specs.Game.{Close}
use Rattle.bit_rel.specs.Relation.{Relation, IsClosed}
use Rattle.bit_rel.proofs.TableLemmas.{valid_table, closed_relation, table_relation}
use Rattle.bit_rel.proofs.relation.Rel.close.Goals as goal

pub returns-clause-closed : goal.returns-clause-closed
returns-clause-closed c =
    let width = c.self.inside.width in
    let n = c.self.inside.count in
    let v = c.self.inside.table in
    let new = c.close_table.new.table in
    let same_len : length new ≡ v.len = search rules in
    let items : (with_items v new).items ≡ new = with_items_is v new same_len in
    let F : List ℕ → Type 0 = λ t. (p q : ℕ) → HasArc new n width p q ↔ ((p < n) × (q < n) × Close (HasArc t n width) p q) in
    let closed = subst F c.deref_mut.ensures.value c.close_table.ensures.closed in
    let S : List ℕ → Type 0 = λ t. IsClosed (table_relation v.items width n) (table_relation t width n) in
    let T : Relation → Type 0 = λ R. IsClosed R (table_relation (with_items v new).items width n) in
    subst T c.self.view_is (subst S (sym items) (closed_relation v.items new width n closed))

pub returns-clause-valid : goal.returns-clause-valid
returns-clause-valid c = valid_table (with_items c.self.inside.table c.close_table.new.table).items c.self.inside.width c.self.inside.count
