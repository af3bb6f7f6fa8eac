use Rattle.std.proofs.Common.{◌≡◌, take, map, slice_index}
use Rattle.auto_core.specs.Automaton.{trans}
use Rattle.ba_format.proofs.joining.with_numbers.Given as goal

abbrev pub invariant-loop-step : goal.invariant-loop-step
invariant-loop-step l = l.done.items ≡ map (λ t. trans t.source (slice_index l.numbers t.label) t.target) (take l.step-index l.transitions)
