use Rattle.std.proofs.Common.{length}
use Rattle.cert_line.proofs.StraightLemmas.{AreBefore}
use Rattle.cert_line.proofs.straight.numbers_in_all.Given as goal

abbrev pub invariant-loop-token : goal.invariant-loop-token
invariant-loop-token l = AreBefore l.values l.tokens l.fn.all

abbrev pub decreases-loop-token : goal.decreases-loop-token
decreases-loop-token l = length l.tokens
