use Rattle.std.proofs.Common.{◌≡◌, ◌++◌, map, filter, take}
use Rattle.auto_ops.specs.UnionParts.{copied, leaves}
use Rattle.auto_ops.proofs.uniting.add_copied.Given as goal

abbrev pub invariant-loop-at : goal.invariant-loop-at
invariant-loop-at l = l.made.items ≡ l.initial.made.items ++ map (copied l.offset) (filter (leaves l.automaton.initial) (take l.at l.automaton.transitions))
