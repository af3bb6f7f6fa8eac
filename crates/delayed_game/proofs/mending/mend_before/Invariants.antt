use Rattle.std.proofs.Common.{◌-◌, ◌≤◌}
use Rattle.delayed_game.proofs.MendLemmas.{IsMendedUpto}
use Rattle.delayed_game.proofs.mending.mend_before.Given as goal

abbrev pub invariant-loop-right : goal.invariant-loop-right
invariant-loop-right l = IsMendedUpto l.automaton l.lost l.ends l.made l.width l.at × (l.at ≤ l.automaton.states)

abbrev pub decreases-loop-right : goal.decreases-loop-right
decreases-loop-right l = l.automaton.states - l.at
