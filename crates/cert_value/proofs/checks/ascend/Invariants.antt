use Rattle.std.proofs.Common.{◌≡◌, drop}
use Rattle.cert_value.specs.WellFormed.{ascend, ascend_from}
use Rattle.cert_value.proofs.checks.ascend.Given as goal

abbrev pub invariant-loop-number : goal.invariant-loop-number
invariant-loop-number l = ascend_from l.bound (drop l.number-index l.numbers) ≡ ascend l.numbers
