use Rattle.std.proofs.Common.{◌≡◌, map, take}
use Rattle.quotient.specs.Images.{image}
use Rattle.quotient.proofs.merging.images.Given as goal

abbrev pub invariant-loop-at : goal.invariant-loop-at
invariant-loop-at l = l.made.items ≡ map (image l.classes) (take l.at l.automaton.transitions)
