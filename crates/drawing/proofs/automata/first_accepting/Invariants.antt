use Rattle.std.proofs.Common.{◌≡◌, filter}
use Rattle.std.specs.List.{range_with_len}
use Rattle.drawing.specs.Drawn.{accepts_first}
use Rattle.drawing.proofs.automata.first_accepting.Given as goal

abbrev pub invariant-loop-state : goal.invariant-loop-state
invariant-loop-state l = l.accepting.items ≡ filter (accepts_first l.drill) (range_with_len 0 l.state)
