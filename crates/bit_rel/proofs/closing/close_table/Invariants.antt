use Rattle.bit_rel.proofs.ClosingLemmas.{IsClosing}
use Rattle.bit_rel.proofs.closing.close_table.Given as goal

abbrev pub invariant-loop-via : goal.invariant-loop-via
invariant-loop-via l = IsClosing l.fn.table l.table l.count l.width l.via
