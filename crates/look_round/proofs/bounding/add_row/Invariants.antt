use Rattle.std.proofs.Common.{◌≡◌, ℕ, ◌-◌, ◌<◌, ◌≤◌, ◌↔◌, ◌⊎◌}
use Rattle.auto_core.specs.Rows.{HasBit}
use Rattle.auto_core.specs.Game.{Holds}
use Rattle.bit_rel.specs.Relation.{IsRelation}
use Rattle.look_round.proofs.bounding.add_row.Given as goal

abbrev pub invariant-loop-q : goal.invariant-loop-q
invariant-loop-q l =
    (l.rel.size ≡ l.fn.rel.size)
    × IsRelation l.rel
    × (l.at ≤ l.fn.rel.size)
    × ((r s : ℕ) → Holds l.rel.pairs r s ↔ (Holds l.fn.rel.pairs r s ⊎ ((r ≡ l.p) × (s < l.at) × HasBit l.row s)))

abbrev pub decreases-loop-q : goal.decreases-loop-q
decreases-loop-q l = l.fn.rel.size - l.at
