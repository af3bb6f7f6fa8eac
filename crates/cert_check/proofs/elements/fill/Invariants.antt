use Rattle.std.proofs.Common.{take}
use Rattle.log_check.specs.Checks.{AllHold, checks_of_each}
use Rattle.cert_check.specs.Inclusion.{element_checks}
use Rattle.cert_check.specs.Supers.{AreSupers}
use Rattle.cert_check.proofs.elements.fill.Given as goal

abbrev pub invariant-loop-e : goal.invariant-loop-e
invariant-loop-e l =
    AllHold (checks_of_each (element_checks l.first l.elements l.item) 0 (take l.e l.elements))
    × AreSupers l.mode l.first l.second l.elements l.e l.supers
