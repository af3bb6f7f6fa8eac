use Rattle.std.proofs.Common.{ℕ, ◌<◌, ◌≤◌}
use Rattle.auto_core.specs.Automaton.{trans_at}
use Rattle.auto_core.specs.Rows.{HasBit}
use Rattle.lasso_accept.specs.Plane.{chosen}
use Rattle.lasso_accept.proofs.spelling.successor_in.Given as goal

abbrev pub invariant-loop-t : goal.invariant-loop-t
invariant-loop-t l =
    (j : ℕ)
    → l.initial.t ≤ j
    → j < l.t
    → HasBit (chosen l.automaton l.marked l.plain (trans_at l.automaton j).target) (trans_at l.automaton j).target
    → ⊥
