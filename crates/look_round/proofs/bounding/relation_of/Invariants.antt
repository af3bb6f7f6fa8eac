use Rattle.std.proofs.Common.{◌≡◌, ℕ, ◌*◌, ◌<◌, ◌↔◌}
use Rattle.auto_core.specs.Rows.{HasCell}
use Rattle.auto_core.specs.Game.{Holds}
use Rattle.bit_rel.specs.Relation.{IsRelation}
use Rattle.look_round.proofs.bounding.relation_of.Given as goal

abbrev pub invariant-loop-p : goal.invariant-loop-p
invariant-loop-p l =
    (l.rel.size ≡ l.count)
    × IsRelation l.rel
    × ((p q : ℕ) → Holds l.rel.pairs p q ↔ ((p < l.p) × (q < l.width * 64) × HasCell l.table l.width p q))
