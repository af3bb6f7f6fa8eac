use Rattle.delayed_game.proofs.BlockLemmas.{AreColumnsFound}
use Rattle.delayed_game.proofs.blocks.find_columns.Given as goal

abbrev pub invariant-loop-number : goal.invariant-loop-number
invariant-loop-number l = AreColumnsFound l.automaton l.words l.found l.label l.number
