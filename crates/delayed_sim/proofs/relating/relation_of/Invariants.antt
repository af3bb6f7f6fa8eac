use Rattle.std.proofs.Common.{◌≡◌, ℕ, ◌<◌, ◌↔◌, []}
use Rattle.auto_core.specs.Game.{Holds}
use Rattle.delayed_sim.specs.Related.{HoldsEach}
use Rattle.delayed_sim.proofs.relating.relation_of.Given as goal

abbrev pub invariant-loop-p : goal.invariant-loop-p
invariant-loop-p l =
    (l.related.size ≡ l.delayed.states)
    × ((r s : ℕ) → Holds l.related.pairs r s ↔ ((r < l.p) × (s < l.delayed.states) × HoldsEach l.delayed [] r s))
