use Rattle.std.proofs.Common.{◌≡◌, ◌*◌, ◌<◌, ◌↔◌, ℕ, List, sym, subst}
use Rattle.auto_core.specs.Rows.{HasBit, bit_of, cell_of}
use Rattle.auto_core.specs.Game.{Holds}
use Rattle.bit_rel.specs.Relation.{Relation, IsRelation}
use Rattle.bit_rel.proofs.TableLemmas.{valid_table, row_pairs}
use Rattle.bit_rel.proofs.relation.Rel.row.Goals as goal

pub returns-clause-bits : goal.returns-clause-bits
returns-clause-bits c =
    let table = c.self.inside.table.items in
    let width = c.self.inside.width in
    let n = c.self.inside.count in
    let p = c.args.p in
    let row = c.row_at.result.now in
    let P : Relation → Type 0 = λ R. p < R.size in
    let p_in : p < n = subst P (sym c.self.view_is) c.requires in
    let F : List ℕ → Type 0 = λ t. (q : ℕ) → q < width * 64 → bit_of row q ≡ cell_of t width p q in
    let bits = subst F c.deref.ensures.value c.row_at.ensures.bits in
    let T : Relation → Type 0 = λ R. (q : ℕ) → HasBit row q ↔ Holds R.pairs p q in
    subst T c.self.view_is (row_pairs table row width n p c.self.invariant.cells p_in bits c.row_at.ensures.outside)

pub returns-clause-valid : goal.returns-clause-valid
returns-clause-valid c =
    let P : Relation → Type 0 = λ R. IsRelation R in
    subst P c.self.view_is (valid_table c.self.inside.table.items c.self.inside.width c.self.inside.count)
