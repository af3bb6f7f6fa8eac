use Rattle.std.proofs.Common.{ℕ, [], arith}
use Rattle.auto_core.specs.Game.{Holds}
use Rattle.look_game.proofs.game.found.Goals as goal

-- no pair is asked for, so none is lost: the empty list is stable
pub unreachable-requires : goal.unreachable-requires
unreachable-requires g c =
    let none : (p q : ℕ) → Holds [] p q → ⊥ = λ p q (at, below, _). absurd (omega arith) in
    c.in_ok-rel.ensures.none c.in-None.is [] (λ p q h. absurd (none p q h)) (λ p q h. absurd (none p q h))
