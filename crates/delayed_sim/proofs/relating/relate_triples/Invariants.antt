use Rattle.std.proofs.Common.{◌≡◌, ℕ, ◌↔◌}
use Rattle.auto_core.specs.Game.{Holds}
use Rattle.delayed_sim.proofs.RelateLemmas.{AreRelatedFrom}
use Rattle.delayed_sim.proofs.relating.relate_triples.Given as goal

abbrev pub invariant-loop-at : goal.invariant-loop-at
invariant-loop-at l = (l.related.size ≡ l.fn.related.size) × ((p q : ℕ) → Holds l.related.pairs p q ↔ AreRelatedFrom l.delayed l.at p q)
