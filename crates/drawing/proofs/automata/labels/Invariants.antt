use Rattle.std.proofs.Common.{◌≡◌, map}
use Rattle.std.specs.List.{range_with_len}
use Rattle.drawing.specs.Drawn.{drawn_label}
use Rattle.drawing.proofs.automata.labels.Given as goal

abbrev pub invariant-loop-label : goal.invariant-loop-label
invariant-loop-label l = l.texts ≡ map drawn_label (range_with_len 0 l.label-counter)
