use Rattle.std.proofs.Common.{◌≡◌, ℕ, ◌<◌, length, slice_index}
use Rattle.auto_core.specs.Useful.{new_number}
use Rattle.useful_states.proofs.keeping.new_numbers.Given as goal

abbrev pub invariant-loop-state : goal.invariant-loop-state
invariant-loop-state l =
    (length l.numbers.items ≡ l.state)
    × ((q : ℕ) → q < l.state → slice_index l.numbers.items q ≡ new_number l.automaton l.kept.members q)
    × (l.count ≡ new_number l.automaton l.kept.members l.state)
