use Rattle.std.proofs.Common.{◌≡◌, ℕ, ◌<◌}
use Rattle.auto_core.specs.Game.{Holds}
use Rattle.log_check.specs.Stability.{IsPairStable}
use Rattle.log_check.proofs.stability.is_row_stable.Given as goal

abbrev pub invariant-loop-q : goal.invariant-loop-q
invariant-loop-q g l =
    ((r : ℕ) → r < l.q → IsPairStable (g.S.Side.goes l.side l.automaton) (g.S.Side.matches l.side l.automaton) l.look (Holds l.rel.pairs) l.p r)
    × (l.scratch ≡ l.fn.scratch)
