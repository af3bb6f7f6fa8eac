use Rattle.std.proofs.Common.{◌≡◌, ◌≤◌, length, take, filter}
use Rattle.auto_ops.specs.UnionParts.{leaves}
use Rattle.auto_ops.proofs.uniting.count_first.Given as goal

abbrev pub invariant-loop-at : goal.invariant-loop-at
invariant-loop-at l = record {
  counted : l.count ≡ length (filter (leaves l.automaton.initial) (take l.at l.automaton.transitions));
  few : l.count ≤ l.at;
}
