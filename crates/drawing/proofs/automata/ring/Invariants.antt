use Rattle.std.proofs.Common.{◌≡◌, map}
use Rattle.std.specs.List.{range_with_len}
use Rattle.drawing.specs.Drawn.{ring_at}
use Rattle.drawing.proofs.automata.ring.Given as goal

abbrev pub invariant-loop-state : goal.invariant-loop-state
invariant-loop-state l = l.steps.items ≡ map (ring_at l.drill) (range_with_len 0 l.state)
