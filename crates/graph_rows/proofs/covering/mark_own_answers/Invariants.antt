use Rattle.std.proofs.Common.{◌≡◌, ◌*◌, ◌+◌, ℕ, length}
use Rattle.auto_core.specs.Rows.{HasBit}
use Rattle.auto_core.specs.Game.{Holds}
use Rattle.graph_rows.proofs.covering.mark_own_answers.Given as goal

abbrev pub invariant-loop-j : goal.invariant-loop-j
invariant-loop-j l = ((i : ℕ) → HasBit l.row i → Holds l.order.pairs (l.word * 64 + i) (l.word * 64 + i)) × (length l.row ≡ 1)
