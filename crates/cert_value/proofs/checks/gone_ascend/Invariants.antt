use Rattle.std.proofs.Common.{◌≡◌, drop}
use Rattle.cert_value.specs.WellFormed.{ascend, ascend_from, gone_of}
use Rattle.cert_value.proofs.checks.gone_ascend.Given as goal

abbrev pub invariant-loop-pair : goal.invariant-loop-pair
invariant-loop-pair l = ascend_from l.bound (gone_of (drop l.pair-index l.pairs)) ≡ ascend (gone_of l.pairs)
