use Rattle.std.proofs.Common.{◌≡◌, ◌++◌, map, take}
use Rattle.auto_ops.specs.UnionParts.{shifted}
use Rattle.auto_ops.proofs.uniting.add_shifted.Given as goal

abbrev pub invariant-loop-at : goal.invariant-loop-at
invariant-loop-at l = l.made.items ≡ l.initial.made.items ++ map (shifted l.offset) (take l.at l.automaton.transitions)
