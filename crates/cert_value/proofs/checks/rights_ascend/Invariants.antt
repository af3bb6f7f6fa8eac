use Rattle.std.proofs.Common.{◌≡◌, drop}
use Rattle.cert_value.specs.WellFormed.{ascend, ascend_from, rights_of}
use Rattle.cert_value.proofs.checks.rights_ascend.Given as goal

abbrev pub invariant-loop-pair : goal.invariant-loop-pair
invariant-loop-pair l = ascend_from l.bound (rights_of (drop l.pair-index l.pairs)) ≡ ascend (rights_of l.pairs)
