use Rattle.std.proofs.Common.{◌≡◌, ℕ, ◌<◌, ◌⊎◌, ◌↔◌, []}
use Rattle.auto_core.specs.Game.{Holds}
use Rattle.delayed_sim.specs.Related.{HoldsEach}
use Rattle.delayed_sim.proofs.relating.relate_row.Given as goal

abbrev pub invariant-loop-q : goal.invariant-loop-q
invariant-loop-q l =
    (l.related.size ≡ l.fn.related.size)
    × ((r s : ℕ) → Holds l.related.pairs r s ↔ (Holds l.fn.related.pairs r s ⊎ ((r ≡ l.p) × (s < l.q) × HoldsEach l.delayed [] l.p s)))
