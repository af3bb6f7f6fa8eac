use Rattle.std.proofs.Common.{◌≡◌, take}
use Rattle.reduce_loop.proofs.joining.class_list.Given as goal

abbrev pub invariant-loop-state : goal.invariant-loop-state
invariant-loop-state l = l.made ≡ take l.state l.classes
