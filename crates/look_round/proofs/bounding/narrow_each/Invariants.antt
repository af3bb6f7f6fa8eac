use Rattle.look_round.proofs.ColumnLemmas.{AreRowsNarrowed}
use Rattle.look_round.proofs.bounding.narrow_each.Given as goal

abbrev pub invariant-loop-p : goal.invariant-loop-p
invariant-loop-p l = AreRowsNarrowed l.fn.table l.table l.width l.columns l.used l.p
