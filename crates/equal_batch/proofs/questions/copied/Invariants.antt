use Rattle.std.proofs.Common.{◌≡◌, take}
use Rattle.equal_batch.proofs.questions.copied.Given as goal

abbrev pub invariant-loop-byte : goal.invariant-loop-byte
invariant-loop-byte l = l.copy ≡ take l.byte-index l.bytes
