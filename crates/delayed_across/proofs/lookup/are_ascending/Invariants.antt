use Rattle.std.proofs.Common.{ℕ, ◌+◌, ◌<◌}
use Rattle.delayed_across.proofs.LookupLemmas.{StandsBeforeNext}
use Rattle.delayed_across.proofs.lookup.are_ascending.Given as goal

abbrev pub invariant-loop-at : goal.invariant-loop-at
invariant-loop-at l = (k : ℕ) → k + 1 < l.at → StandsBeforeNext l.pairs k
