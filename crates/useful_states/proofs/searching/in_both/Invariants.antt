use Rattle.std.proofs.Common.{◌≡◌, ℕ, ◌<◌, ◌↔◌, Contains}
use Rattle.useful_states.proofs.searching.in_both.Given as goal

abbrev pub invariant-loop-state : goal.invariant-loop-state
invariant-loop-state l =
    (l.set.states ≡ l.states)
    × ((q : ℕ) → Contains l.set.members q ↔ ((q < l.state) × Contains l.one.members q × Contains l.other.members q))
