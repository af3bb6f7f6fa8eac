use Rattle.std.proofs.Common.{◌≡◌, map, fold}
use Rattle.std.specs.List.{range_with_len}
use Rattle.ba_format.specs.Sight.{noted}
use Rattle.ba_format.specs.Faults.{same_trans}
use Rattle.drawing.specs.Drawn.{ring, extra_at}
use Rattle.drawing.proofs.automata.ring_and_more.Given as goal

abbrev pub invariant-loop-at : goal.invariant-loop-at
invariant-loop-at l = l.steps.items ≡ fold (noted same_trans) (ring l.drill) (map (extra_at l.drill) (range_with_len 0 l.at))
