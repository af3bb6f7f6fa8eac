use Rattle.std.proofs.Common.{◌≡◌, ℕ, ◌<◌, ◌≤◌, length}
use Rattle.strong_components.specs.Graph.{at}
use Rattle.strong_components.proofs.search.mark.Given as goal

abbrev pub invariant-loop-x : goal.invariant-loop-x
invariant-loop-x l =
    (length l.numbers ≡ length l.initial.numbers)
    × ((y : ℕ) → l.initial.x ≤ y → y < l.x → at l.numbers (at l.stack y) ≡ l.number)
    × ((v : ℕ) → ((y : ℕ) → l.initial.x ≤ y → y < l.x → at l.stack y ≡ v → ⊥) → at l.numbers v ≡ at l.initial.numbers v)
