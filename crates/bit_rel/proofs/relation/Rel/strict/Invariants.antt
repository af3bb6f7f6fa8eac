use Rattle.std.proofs.Common.{ℕ, ◌≡◌, ◌<◌, ◌↔◌}
use Rattle.auto_core.specs.Game.{Holds, Strict}
use Rattle.bit_rel.proofs.relation.Rel.strict.Given as goal

abbrev pub invariant-loop-p : goal.invariant-loop-p
invariant-loop-p l =
    (l.part.size ≡ l.self.size)
    × ((r s : ℕ) → Holds l.part.pairs r s ↔ ((r < l.p) × Strict (Holds l.self.pairs) r s))
