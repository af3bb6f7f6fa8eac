use Rattle.std.proofs.Common.{◌≡◌, take}
use Rattle.prune_pairs.specs.Least.{numbers_of_gone}
use Rattle.reduce_loop.proofs.pruning.numbers.Given as goal

abbrev pub invariant-loop-entry : goal.invariant-loop-entry
invariant-loop-entry l = l.made.items ≡ numbers_of_gone (take l.entry-index l.gone)
