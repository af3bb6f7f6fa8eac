use Rattle.std.proofs.Common.{◌≡◌, take}
use Rattle.auto_core.specs.Build.{targets_at}
use Rattle.auto_core.proofs.tables.targets.Given as goal

abbrev pub invariant-loop-t : goal.invariant-loop-t
invariant-loop-t l = l.targets.items ≡ targets_at l.transitions (take l.t-index l.numbers)
