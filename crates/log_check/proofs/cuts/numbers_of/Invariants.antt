use Rattle.std.proofs.Common.{◌≡◌, take}
use Rattle.cert_value.specs.WellFormed.{gone_of}
use Rattle.log_check.proofs.cuts.numbers_of.Given as goal

abbrev pub invariant-loop-one : goal.invariant-loop-one
invariant-loop-one l = l.numbers.items ≡ gone_of (take l.one-index l.gone)
