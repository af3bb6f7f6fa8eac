use Rattle.std.proofs.Common.{◌≡◌, ◌<◌, ◌↔◌, IsTrue, rules, sym, ◌∙◌, subst}
use Rattle.auto_core.specs.Game.{Holds}
use Rattle.auto_core.specs.Rows.{cell_of}
use Rattle.bit_rel.specs.Relation.{Relation, IsRelation}
use Rattle.bit_rel.proofs.TableLemmas.{valid_table, held_cell, cell_held}
use Rattle.bit_rel.proofs.relation.Rel.get.Goals as goal

pub returns-clause-told : goal.returns-clause-told
returns-clause-told c =
    let table = c.self.inside.table.items in
    let width = c.self.inside.width in
    let n = c.self.inside.count in
    let P : Relation → Type 0 = λ R. (c.args.p < R.size) × (c.args.q < R.size) in
    let inside = subst P (sym c.self.view_is) (c.requires.left, c.requires.right) in
    let same : c.has_cell.result ≡ cell_of table width c.args.p c.args.q = search rules in
    let T : Relation → Type 0 = λ R. IsTrue c.has_cell.result ↔ Holds R.pairs c.args.p c.args.q in
    subst T c.self.view_is (
      λ h. cell_held table width n c.args.p c.args.q inside.0 inside.1 (sym same ∙ h),
      λ h. same ∙ (held_cell table width n c.args.p c.args.q h).2,
    )

pub returns-clause-valid : goal.returns-clause-valid
returns-clause-valid c =
    let P : Relation → Type 0 = λ R. IsRelation R in
    subst P c.self.view_is (valid_table c.self.inside.table.items c.self.inside.width c.self.inside.count)
