use Rattle.std.proofs.Common.{◌≡◌, ◌++◌, take}
use Rattle.std.specs.List.{flat_map}
use Rattle.ba_format.specs.Writing.{state_text}
use Rattle.ba_format.proofs.writing.append_states.Given as goal

abbrev pub invariant-loop-state : goal.invariant-loop-state
invariant-loop-state l = l.out ≡ l.initial.out ++ flat_map state_text (take l.state-index l.states)
