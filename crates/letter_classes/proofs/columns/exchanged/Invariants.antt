use Rattle.std.proofs.Common.{◌≡◌, map, take}
use Rattle.letter_classes.specs.Columns.{exchanged}
use Rattle.letter_classes.proofs.columns.exchanged.Given as goal

abbrev pub invariant-loop-at : goal.invariant-loop-at
invariant-loop-at l = l.made.items ≡ map exchanged (take l.at l.automaton.transitions)
