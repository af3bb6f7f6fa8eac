use Rattle.std.proofs.Common.{ℕ, ◌/◌, ◌<◌}
use Rattle.auto_core.specs.Game.{Holds}
use Rattle.auto_core.specs.Graph.{graph_of_tables}
use Rattle.auto_core.specs.Reach.{HasArc, IsTable}
use Rattle.supergraph.specs.Minimal.{IsDominated, IsLessened}
use Rattle.supergraph.proofs.minimal.lessen.Given as goal

abbrev pub invariant-loop-word : goal.invariant-loop-word
invariant-loop-word l = record {
  joined : IsTable l.joined l.order.size l.width;
  past : IsTable l.past l.order.size l.width;
  lessened : IsLessened (Holds l.order.pairs) (graph_of_tables l.fn.joined l.fn.past l.order.size l.width) (graph_of_tables l.joined l.past l.order.size l.width);
  minimal : (s t : ℕ) → t / 64 < l.word → HasArc l.joined l.order.size l.width s t → IsDominated (Holds l.order.pairs) (graph_of_tables l.joined l.past l.order.size l.width) s t → ⊥;
}
