use Rattle.std.proofs.Common.{◌≡◌, ℕ, ◌<◌, ◌⊎◌, ◌↔◌}
use Rattle.auto_core.specs.Game.{Holds}
use Rattle.bit_rel.specs.Relation.{IsRelation}
use Rattle.delayed_sim.proofs.game.fill_row.Given as goal

abbrev pub invariant-loop-q : goal.invariant-loop-q
invariant-loop-q l =
    (l.rel.size ≡ l.fn.rel.size)
    × IsRelation l.rel
    × ((r s : ℕ) → Holds l.rel.pairs r s ↔ (Holds l.fn.rel.pairs r s ⊎ ((r ≡ l.p) × (s < l.q))))
