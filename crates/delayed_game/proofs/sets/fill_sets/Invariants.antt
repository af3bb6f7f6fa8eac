use Rattle.delayed_game.specs.Before.{IsSetTable}
use Rattle.delayed_game.proofs.sets.fill_sets.Given as goal

abbrev pub invariant-loop-number : goal.invariant-loop-number
invariant-loop-number l = IsSetTable l.automaton l.width l.number l.sets
