use Rattle.std.proofs.Common.{ℕ, ◌+◌, ◌<◌}
use Rattle.auto_core.specs.Automaton.{trans_at}
use Rattle.ranked_product.specs.Alike.{AreAlike}
use Rattle.ranked_product.proofs.deterministic.is_deterministic.Given as goal

abbrev pub invariant-loop-at : goal.invariant-loop-at
invariant-loop-at l = (k : ℕ) → k + 1 < l.at → AreAlike (trans_at l.automaton k) (trans_at l.automaton (k + 1)) → ⊥
