use Rattle.std.proofs.Common.{ℕ, ◌<◌, ◌≤◌}
use Rattle.auto_core.specs.Game.{Holds}
use Rattle.auto_core.specs.Pruning.{IsBetterAt}
use Rattle.prune_pairs.proofs.finding.first_within.Given as goal

abbrev pub invariant-loop-by : goal.invariant-loop-by
invariant-loop-by l = (u : ℕ) → l.fn.span.begin ≤ u → u < l.by → IsBetterAt l.automaton l.pair (Holds l.back.pairs) (Holds l.ahead.pairs) l.t u → ⊥
