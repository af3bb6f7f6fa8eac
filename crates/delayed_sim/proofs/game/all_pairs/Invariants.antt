use Rattle.std.proofs.Common.{◌≡◌, ℕ, ◌<◌}
use Rattle.auto_core.specs.Game.{Holds}
use Rattle.bit_rel.specs.Relation.{IsRelation}
use Rattle.delayed_sim.proofs.game.all_pairs.Given as goal

abbrev pub invariant-loop-p : goal.invariant-loop-p
invariant-loop-p l = (l.rel.size ≡ l.n) × IsRelation l.rel × ((r q : ℕ) → r < l.p → q < l.n → Holds l.rel.pairs r q)
