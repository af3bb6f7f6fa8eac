use Rattle.std.proofs.Common.{ℕ, ◌<◌}
use Rattle.delayed_laws.specs.Listed.{place_pairs, delayed_at}
use Rattle.delayed_across.specs.Answered.{KeepsAnswers}
use Rattle.delayed_across.proofs.checking.unanswered.Given as goal

abbrev pub invariant-loop-at : goal.invariant-loop-at
invariant-loop-at l = (i : ℕ) → i < l.at → KeepsAnswers l.first l.second (place_pairs l.pairs) (delayed_at l.pairs i)
