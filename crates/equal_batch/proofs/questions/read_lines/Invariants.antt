use Rattle.std.proofs.Common.{length}
use Rattle.equal_batch.proofs.ListLemmas.{Underway}
use Rattle.equal_batch.proofs.questions.read_lines.Given as goal

abbrev pub invariant-loop-rest : goal.invariant-loop-rest
invariant-loop-rest l = Underway l.bytes l.rest l.number l.questions

abbrev pub decreases-loop-rest : goal.decreases-loop-rest
decreases-loop-rest l = length l.rest
