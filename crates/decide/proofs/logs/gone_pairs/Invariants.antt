use Rattle.std.proofs.Common.{◌≡◌, map, take}
use Rattle.decide.specs.Written.{gone_and_better}
use Rattle.decide.proofs.logs.gone_pairs.Given as goal

abbrev pub invariant-loop-pair : goal.invariant-loop-pair
invariant-loop-pair l = l.made ≡ map gone_and_better (take l.pair-index l.gone)
