use Rattle.std.proofs.Common.{◌≡◌, ℕ, ◌<◌, slice_index_or}
use Rattle.auto_core.specs.Rows.{HasBit}
use Rattle.look_round.specs.Sides.{move}
use Rattle.look_round.proofs.replies.has_reply_in.Given as goal

abbrev pub invariant-loop-at : goal.invariant-loop-at
invariant-loop-at g l = (j : ℕ) → j < l.at
    → (slice_index_or (g.S.Side.list l.side l.automaton l.from) j (move 0 0)).label ≡ l.step.label
    → g.S.Side.matches l.side l.automaton l.step.to (slice_index_or (g.S.Side.list l.side l.automaton l.from) j (move 0 0)).to
    → HasBit l.row (slice_index_or (g.S.Side.list l.side l.automaton l.from) j (move 0 0)).to
    → ⊥
