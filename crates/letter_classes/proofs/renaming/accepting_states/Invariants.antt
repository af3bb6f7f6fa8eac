use Rattle.std.proofs.Common.{◌≡◌, filter}
use Rattle.std.specs.List.{range_with_len}
use Rattle.auto_core.specs.Automaton.{is_accepting}
use Rattle.letter_classes.proofs.renaming.accepting_states.Given as goal

abbrev pub invariant-loop-state : goal.invariant-loop-state
invariant-loop-state l = l.made.items ≡ filter (is_accepting l.automaton) (range_with_len 0 l.state)
