use Rattle.std.proofs.Common.{subst}
use Rattle.bit_rel.specs.Relation.{Relation, IsRelation}
use Rattle.bit_rel.proofs.TableLemmas.{valid_table}
use Rattle.bit_rel.proofs.relation.Rel.size.Goals as goal

pub returns-clause-valid : goal.returns-clause-valid
returns-clause-valid c =
    let P : Relation → Type 0 = λ R. IsRelation R in
    subst P c.self.view_is (valid_table c.self.inside.table.items c.self.inside.width c.self.inside.count)
