use Rattle.std.proofs.Common.{ℕ, ◌<◌, ◌≤◌}
use Rattle.auto_core.specs.Automaton.{trans_at}
use Rattle.product_laws.specs.Ranked.{IsCovered}
use Rattle.ranked_product.proofs.checking.covers_moves.Given as goal

abbrev pub invariant-loop-t : goal.invariant-loop-t
invariant-loop-t l = (v : ℕ) → l.initial.t ≤ v → v < l.t → IsCovered l.second l.pairs l.pair.right (trans_at l.first v).label (trans_at l.first v).target
