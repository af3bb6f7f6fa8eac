use Rattle.std.proofs.Common.{◌≡◌, ◌-◌, drop, length}
use Rattle.cert_text.specs.Machine.{live_from}
use Rattle.cert_text.proofs.evidence.live_from.Given as goal

abbrev pub invariant-loop-at : goal.invariant-loop-at
invariant-loop-at l = live_from l.at (drop l.at l.elements) ≡ live_from l.fn.from (drop l.fn.from l.elements)

abbrev pub decreases-loop-at : goal.decreases-loop-at
decreases-loop-at l = length l.elements - l.at
