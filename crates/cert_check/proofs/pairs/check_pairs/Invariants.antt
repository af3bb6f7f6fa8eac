use Rattle.std.proofs.Common.{take}
use Rattle.auto_core.specs.declared.parts.Mode.TheVariants.{Buchi}
use Rattle.log_check.specs.Checks.{AllHold, checks_of_each}
use Rattle.cert_check.specs.Inclusion.{pair_checks}
use Rattle.cert_check.specs.Turns.{AreTests}
use Rattle.cert_check.proofs.pairs.check_pairs.Given as goal

abbrev pub invariant-loop-e : goal.invariant-loop-e
invariant-loop-e l = record {
  hold : AllHold (checks_of_each (pair_checks Buchi l.first l.second l.evidence l.item) 0 (take l.e l.evidence.elements));
  tests : AreTests l.second l.supers.graphs.graphs.items l.turns.items l.tests;
}
