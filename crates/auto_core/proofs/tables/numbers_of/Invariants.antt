use Rattle.std.proofs.Common.{◌≡◌, take}
use Rattle.auto_core.specs.Arrivals.{arrival_numbers}
use Rattle.auto_core.proofs.tables.numbers_of.Given as goal

abbrev pub invariant-loop-arrival : goal.invariant-loop-arrival
invariant-loop-arrival l = l.numbers.items ≡ arrival_numbers (take l.arrival-index l.arrivals)
