use Rattle.std.proofs.Common.{◌≡◌, ◌↔◌, ℕ, Contains, take}
use Rattle.log_check.proofs.keeping.set_of.Given as goal

abbrev pub invariant-loop-state : goal.invariant-loop-state
invariant-loop-state l = (l.set.states ≡ l.automaton.states) × ((q : ℕ) → Contains l.set.members q ↔ Contains (take l.state-index l.kept) q)
