use Rattle.std.proofs.Common.{ℕ, ◌<◌}
use Rattle.delayed_laws.specs.Listed.{delayed_at}
use Rattle.delayed_across.specs.Answered.{IsOfStates}
use Rattle.delayed_across.proofs.checking.out_of_range.Given as goal

abbrev pub invariant-loop-at : goal.invariant-loop-at
invariant-loop-at l = (i : ℕ) → i < l.at → IsOfStates l.first l.second (delayed_at l.pairs i)
