use Rattle.std.proofs.Common.{◌≡◌, ◌++◌, take}
use Rattle.auto_core.proofs.listing.append.Given as goal

abbrev pub invariant-loop-byte : goal.invariant-loop-byte
invariant-loop-byte l = l.out ≡ l.initial.out ++ take l.byte-index l.bytes
