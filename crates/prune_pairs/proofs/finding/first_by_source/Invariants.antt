use Rattle.std.proofs.Common.{ℕ, ◌-◌, ◌<◌, ◌≤◌}
use Rattle.auto_core.specs.Automaton.{trans_at}
use Rattle.auto_core.specs.Game.{Holds}
use Rattle.auto_core.specs.Pruning.{IsBetterAt}
use Rattle.prune_pairs.proofs.finding.first_by_source.Given as goal

abbrev pub invariant-loop-source : goal.invariant-loop-source
invariant-loop-source l = (l.at ≤ l.automaton.states) × ((u : ℕ) → (trans_at l.automaton u).source < l.at → IsBetterAt l.automaton l.pair (Holds l.back.pairs) (Holds l.ahead.pairs) l.t u → ⊥)

abbrev pub decreases-loop-source : goal.decreases-loop-source
decreases-loop-source l = l.automaton.states - l.at
