use Rattle.log_check.specs.Rows.{HoldsFrom, AreRows}
use Rattle.log_check.proofs.rows.rows_of.Given as goal

abbrev pub invariant-loop-left : goal.invariant-loop-left
invariant-loop-left l = AreRows (HoldsFrom l.rel.pairs l.offset l.rights) l.left l.rows
