use Rattle.std.proofs.Common.{◌∙◌, ℕ, List, ap, subst}
use Rattle.auto_core.specs.Rows.{cell_of}
use Rattle.bit_rel.specs.Relation.{Relation, IsRelation}
use Rattle.bit_rel.specs.Stored.{pairs_below}
use Rattle.bit_rel.proofs.TableLemmas.{valid_table}
use Rattle.bit_rel.proofs.relation.Rel.copied.Goals as goal

pub returns-clause-same : goal.returns-clause-same
returns-clause-same c =
    let n = c.self.inside.count in
    let w = c.self.inside.width in
    let made : List ℕ → Relation = λ t. record { size = n; pairs = pairs_below (cell_of t w) n n } in
    let items = c.in_ok-to_vec.ensures.items_if_clones_equal (λ x y e. e) in
    ap made (items ∙ c.deref.ensures.value) ∙ c.self.view_is

pub returns-clause-valid : goal.returns-clause-valid
returns-clause-valid c =
    let P : Relation → Type 0 = λ R. IsRelation R in
    subst P c.self.view_is (valid_table c.self.inside.table.items c.self.inside.width c.self.inside.count)
