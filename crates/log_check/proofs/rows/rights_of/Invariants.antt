use Rattle.log_check.specs.Rows.{HoldsFrom, AreRights}
use Rattle.log_check.proofs.rows.rights_of.Given as goal

abbrev pub invariant-loop-right : goal.invariant-loop-right
invariant-loop-right l = AreRights (HoldsFrom l.rel.pairs l.offset l.right) l.left l.rights
