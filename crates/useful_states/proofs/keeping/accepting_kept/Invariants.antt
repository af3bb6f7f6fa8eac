use Rattle.std.proofs.Common.{◌≡◌, ◌&&◌, map, filter}
use Rattle.std.specs.List.{range_with_len}
use Rattle.auto_core.specs.Automaton.{is_accepting}
use Rattle.auto_core.specs.Useful.{new_number}
use Rattle.useful_states.specs.KeptParts.{has}
use Rattle.useful_states.proofs.keeping.accepting_kept.Given as goal

abbrev pub invariant-loop-state : goal.invariant-loop-state
invariant-loop-state l = l.made.items ≡ map (new_number l.automaton l.kept.members) (filter (λ q. has l.kept.members q && is_accepting l.automaton q) (range_with_len 0 l.state))
