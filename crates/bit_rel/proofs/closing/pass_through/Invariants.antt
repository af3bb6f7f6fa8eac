use Rattle.bit_rel.proofs.ClosingLemmas.{ArePassedUpto}
use Rattle.bit_rel.proofs.closing.pass_through.Given as goal

abbrev pub invariant-loop-p : goal.invariant-loop-p
invariant-loop-p l = ArePassedUpto l.fn.table l.table l.width l.via l.p
