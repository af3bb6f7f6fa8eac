use Rattle.std.proofs.Common.{ℕ, ◌-◌, ◌<◌, ◌≤◌}
use Rattle.auto_core.specs.Automaton.{trans_at}
use Rattle.state_map.proofs.moves.has_target.Given as goal

abbrev pub invariant-loop-low : goal.invariant-loop-low
invariant-loop-low l =
    (l.fn.span.begin ≤ l.low)
    × (l.low ≤ l.high)
    × (l.high ≤ l.fn.span.end)
    × ((t : ℕ) → l.fn.span.begin ≤ t → t < l.low → (trans_at l.automaton t).target < l.target)
    × ((t : ℕ) → l.high ≤ t → t < l.fn.span.end → l.target < (trans_at l.automaton t).target)

abbrev pub decreases-loop-low : goal.decreases-loop-low
decreases-loop-low l = l.high - l.low
