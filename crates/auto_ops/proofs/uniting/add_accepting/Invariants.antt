use Rattle.std.proofs.Common.{◌≡◌, ◌++◌}
use Rattle.auto_ops.specs.UnionParts.{accepting_of_one}
use Rattle.auto_ops.proofs.uniting.add_accepting.Given as goal

abbrev pub invariant-loop-state : goal.invariant-loop-state
invariant-loop-state l = l.made.items ≡ l.initial.made.items ++ accepting_of_one l.automaton l.offset l.state
