use Rattle.std.proofs.Common.{ℕ, ◌≡◌, ◌<◌, ◌↔◌, ◌⊎◌}
use Rattle.auto_core.specs.Game.{Holds, Strict}
use Rattle.bit_rel.proofs.relation.Rel.add_strict.Given as goal

abbrev pub invariant-loop-q : goal.invariant-loop-q
invariant-loop-q l =
    (l.part.size ≡ l.fn.part.size)
    × ((r s : ℕ) → Holds l.part.pairs r s ↔ (Holds l.fn.part.pairs r s ⊎ ((r ≡ l.p) × (s < l.q) × Strict (Holds l.self.pairs) r s)))
