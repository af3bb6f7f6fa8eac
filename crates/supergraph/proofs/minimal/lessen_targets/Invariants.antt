use Rattle.std.proofs.Common.{ℕ, ◌+◌, ◌-◌, ◌*◌, ◌<◌, ◌≤◌, [], ◌∷◌}
use Rattle.auto_core.specs.Game.{Holds}
use Rattle.auto_core.specs.Graph.{graph_of_tables}
use Rattle.auto_core.specs.Reach.{HasArc, IsTable}
use Rattle.auto_core.specs.Rows.{HasBit}
use Rattle.supergraph.specs.Minimal.{IsDominated, IsLessened}
use Rattle.supergraph.proofs.minimal.lessen_targets.Given as goal

abbrev pub invariant-loop-bit : goal.invariant-loop-bit
invariant-loop-bit l = record {
  place : l.at ≤ 64;
  joined : IsTable l.joined l.order.size l.width;
  past : IsTable l.past l.order.size l.width;
  lessened : IsLessened (Holds l.order.pairs) (graph_of_tables l.fn.joined l.fn.past l.order.size l.width) (graph_of_tables l.joined l.past l.order.size l.width);
  minimal : (j : ℕ) → j < l.at → HasBit (l.targets ∷ []) j → (s : ℕ) → HasArc l.joined l.order.size l.width s (l.word * 64 + j)
      → IsDominated (Holds l.order.pairs) (graph_of_tables l.joined l.past l.order.size l.width) s (l.word * 64 + j) → ⊥;
}

abbrev pub decreases-loop-bit : goal.decreases-loop-bit
decreases-loop-bit l = 64 - l.at
