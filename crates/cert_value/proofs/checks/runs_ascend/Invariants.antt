use Rattle.std.proofs.Common.{◌≡◌, drop}
use Rattle.cert_value.specs.WellFormed.{runs_ascend, runs_ascend_from}
use Rattle.cert_value.proofs.checks.runs_ascend.Given as goal

abbrev pub invariant-loop-run : goal.invariant-loop-run
invariant-loop-run l = runs_ascend_from l.bound (drop l.run-index l.runs) ≡ runs_ascend l.runs
