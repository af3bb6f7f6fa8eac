use Rattle.std.proofs.Common.{◌≡◌, ℕ, ◌*◌, ◌<◌, List, sym, subst, rules, length}
use Rattle.std.proofs.lemmas.List.{with_items_is}
use Rattle.std.specs.Vec.{with_items}
use Rattle.auto_core.specs.Rows.{cell_of}
use Rattle.bit_rel.specs.Relation.{Relation, Removes}
use Rattle.bit_rel.proofs.TableLemmas.{valid_table, removed, table_relation}
use Rattle.bit_rel.proofs.relation.Rel.clear.Goals as goal

pub returns-clause-pairs : goal.returns-clause-pairs
returns-clause-pairs c =
    let width = c.self.inside.width in
    let n = c.self.inside.count in
    let v = c.self.inside.table in
    let new = c.clear_cell.new.table in
    let p = c.args.p in
    let q = c.args.q in
    let P : Relation → Type 0 = λ R. (p < R.size) × (q < R.size) in
    let inside = subst P (sym c.self.view_is) (c.requires.left, c.requires.right) in
    let same_len : length new ≡ v.len = search rules in
    let items : (with_items v new).items ≡ new = with_items_is v new same_len in
    let F : List ℕ → Type 0 = λ t. (r s : ℕ) → s < width * 64 → ¬ ((r ≡ p) × (s ≡ q)) → cell_of new width r s ≡ cell_of t width r s in
    let others = subst F c.deref_mut.ensures.value c.clear_cell.ensures.others in
    let S : List ℕ → Type 0 = λ t. Removes (table_relation v.items width n) (table_relation t width n) p q in
    let T : Relation → Type 0 = λ R. Removes R (table_relation (with_items v new).items width n) p q in
    subst T c.self.view_is
    (subst S (sym items) (removed v.items new width n p q inside.0 inside.1 c.self.invariant.cells.room others c.clear_cell.ensures.here))

pub returns-clause-valid : goal.returns-clause-valid
returns-clause-valid c = valid_table (with_items c.self.inside.table c.clear_cell.new.table).items c.self.inside.width c.self.inside.count
