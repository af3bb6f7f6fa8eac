use Rattle.std.proofs.Common.{◌≡◌, ℕ, ◌<◌}
use Rattle.auto_core.specs.Game.{Holds}
use Rattle.log_check.specs.Stability.{IsRowStable}
use Rattle.log_check.proofs.stability.is_stable.Given as goal

abbrev pub invariant-loop-p : goal.invariant-loop-p
invariant-loop-p g l =
    ((r : ℕ) → r < l.p → IsRowStable (g.S.Side.goes l.side l.automaton) (g.S.Side.matches l.side l.automaton) l.look (Holds l.rel.pairs) l.automaton.states r)
    × (l.scratch ≡ record { states = l.automaton.states; look = l.look })
