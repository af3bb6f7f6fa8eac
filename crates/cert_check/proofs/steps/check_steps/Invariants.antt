use Rattle.std.proofs.Common.{length, take}
use Rattle.log_check.specs.Checks.{AllHold, checks_of_each}
use Rattle.cert_check.specs.Inclusion.{step_checks}
use Rattle.cert_check.specs.Supers.{AreSupers, IsEvidenceOrder}
use Rattle.cert_check.proofs.steps.check_steps.Given as goal

abbrev pub invariant-loop-k : goal.invariant-loop-k
invariant-loop-k l =
    AllHold (checks_of_each (step_checks l.mode l.first l.second l.evidence l.item) 0 (take l.k l.evidence.steps))
    × AreSupers l.mode l.first l.second l.evidence.elements (length l.evidence.elements) l.supers
    × IsEvidenceOrder l.second l.evidence l.supers.graphs.graphs.items l.order
