use Rattle.std.proofs.Common.{take}
use Rattle.auto_core.specs.declared.parts.Mode.TheVariants.{Finite}
use Rattle.log_check.specs.Checks.{AllHold, checks_of_each}
use Rattle.cert_check.specs.Inclusion.{pair_checks}
use Rattle.cert_check.proofs.passing.check_alone.Given as goal

abbrev pub invariant-loop-e : goal.invariant-loop-e
invariant-loop-e l = AllHold (checks_of_each (pair_checks Finite l.first l.second l.evidence l.item) 0 (take l.e l.evidence.elements))
