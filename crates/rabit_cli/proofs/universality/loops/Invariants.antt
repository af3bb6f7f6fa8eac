use Rattle.std.proofs.Common.{◌≡◌}
use Rattle.rabit_cli.specs.Universal.{loops}
use Rattle.rabit_cli.proofs.universality.loops.Given as goal

abbrev pub invariant-loop-label : goal.invariant-loop-label
invariant-loop-label l = l.made ≡ loops l.label
