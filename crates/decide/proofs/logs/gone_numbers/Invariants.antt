use Rattle.std.proofs.Common.{◌≡◌, take}
use Rattle.prune_pairs.specs.Least.{numbers_of_gone}
use Rattle.decide.proofs.logs.gone_numbers.Given as goal

abbrev pub invariant-loop-pair : goal.invariant-loop-pair
invariant-loop-pair l = l.made ≡ numbers_of_gone (take l.pair-index l.gone)
