use Rattle.std.proofs.Common.{◌≡◌, map, filter}
use Rattle.std.specs.List.{range_with_len}
use Rattle.auto_core.specs.Automaton.{is_accepting}
use Rattle.auto_core.specs.Quotient.{class_of}
use Rattle.quotient.proofs.merging.accepting_classes.Given as goal

abbrev pub invariant-loop-state : goal.invariant-loop-state
invariant-loop-state l = l.made.items ≡ map (class_of l.classes) (filter (is_accepting l.automaton) (range_with_len 0 l.state))
