use Rattle.delayed_game.proofs.BlockLemmas.{AreRowsNoted}
use Rattle.delayed_game.proofs.blocks.note_turned.Given as goal

abbrev pub invariant-loop-number : goal.invariant-loop-number
invariant-loop-number l = AreRowsNoted l.places l.fn.answered l.answered l.turned l.width l.label l.block l.number
