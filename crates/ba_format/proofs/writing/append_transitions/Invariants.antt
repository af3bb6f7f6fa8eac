use Rattle.std.proofs.Common.{◌≡◌, ◌++◌, take}
use Rattle.std.specs.List.{flat_map}
use Rattle.ba_format.specs.Writing.{transition_text}
use Rattle.ba_format.proofs.writing.append_transitions.Given as goal

abbrev pub invariant-loop-step : goal.invariant-loop-step
invariant-loop-step l = l.out ≡ l.initial.out ++ flat_map (transition_text l.labels) (take l.step-index l.steps)
