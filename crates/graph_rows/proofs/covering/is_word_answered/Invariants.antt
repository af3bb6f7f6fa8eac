use Rattle.std.proofs.Common.{◌≡◌, ◌/◌, ◌<◌, ℕ}
use Rattle.auto_core.specs.Reach.{HasArc}
use Rattle.auto_core.specs.Game.{Holds}
use Rattle.graph_rows.specs.Covering.{IsTargetAnswered}
use Rattle.graph_rows.proofs.covering.is_word_answered.Given as goal

abbrev pub invariant-loop-row : goal.invariant-loop-row
invariant-loop-row l = (s t : ℕ) → s < l.row → t / 64 ≡ l.word → HasArc l.arcs l.order.size l.width s t → IsTargetAnswered (Holds l.order.pairs) (HasArc l.other_arcs l.order.size l.width s) t
