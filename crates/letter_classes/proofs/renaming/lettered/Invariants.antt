use Rattle.std.proofs.Common.{◌≡◌, map, take}
use Rattle.letter_classes.specs.Columns.{lettered}
use Rattle.letter_classes.proofs.renaming.lettered.Given as goal

abbrev pub invariant-loop-at : goal.invariant-loop-at
invariant-loop-at l = l.made.items ≡ map (lettered l.classes) (take l.at l.automaton.transitions)
