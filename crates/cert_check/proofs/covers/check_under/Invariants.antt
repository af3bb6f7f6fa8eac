use Rattle.std.proofs.Common.{take}
use Rattle.log_check.specs.Checks.{AllHold, checks_of_each}
use Rattle.cert_check.specs.Inclusion.{under_checks}
use Rattle.cert_check.specs.Supers.{IsEvidenceOrder}
use Rattle.cert_check.proofs.covers.check_under.Given as goal

abbrev pub invariant-loop-e : goal.invariant-loop-e
invariant-loop-e l = record {
  hold : AllHold (checks_of_each (under_checks l.mode l.first l.second l.evidence l.item) 0 (take l.e l.evidence.elements));
  order : IsEvidenceOrder l.second l.evidence l.supers.graphs.graphs.items l.order;
}
