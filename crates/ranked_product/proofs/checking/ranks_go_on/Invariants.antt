use Rattle.std.proofs.Common.{ℕ, ◌<◌, ◌≤◌}
use Rattle.auto_core.specs.Automaton.{trans_at}
use Rattle.product_laws.specs.Ranked.{RankGoesOnBy}
use Rattle.ranked_product.proofs.checking.ranks_go_on.Given as goal

abbrev pub invariant-loop-t : goal.invariant-loop-t
invariant-loop-t l = (v : ℕ) → l.initial.t ≤ v → v < l.t → RankGoesOnBy l.first l.second l.pairs l.pair (trans_at l.first v).label (trans_at l.first v).target
