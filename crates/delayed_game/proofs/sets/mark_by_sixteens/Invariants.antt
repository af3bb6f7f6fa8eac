use Rattle.std.proofs.Common.{◌≡◌, ◌+◌, ◌-◌, ◌%◌, ◌≤◌}
use Rattle.delayed_game.proofs.SetLemmas.{EndsMarked}
use Rattle.delayed_game.proofs.sets.mark_by_sixteens.Given as goal

abbrev pub invariant-loop-right : goal.invariant-loop-right
invariant-loop-right l = EndsMarked l.automaton l.ends l.fn.made l.made l.width l.at × (l.at ≤ l.automaton.states + 15) × (l.at % 16 ≡ 0)

abbrev pub decreases-loop-right : goal.decreases-loop-right
decreases-loop-right l = l.automaton.states + 15 - l.at
