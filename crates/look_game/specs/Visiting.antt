-- Visiting the rows of a relation.
use Rattle.std.specs.Prelude.{◌≡◌, ℕ, ◌+◌, ◌/◌, ◌↔◌, List, vec_len}
use Rattle.auto_core.specs.Rows.{HasBit}
use Rattle.auto_core.specs.Game.{Holds}
use Rattle.bit_rel.specs.Relation.{Relation, IsRelation}
use Rattle.look_round.specs.Answering.{AreRowsOfAnswers}
use Rattle.look_game.specs.declared.visiting.Visits.{Visits}

-- The room is for n states, and has rows of what is answered at once up to W.
pub record IsRoomFor (M : ℕ → ℕ → ℕ → Type 0) (ok W : ℕ → ℕ → Type 0) (n : ℕ)
    (visits : Visits) : Type 0 where
  pub answers : AreRowsOfAnswers M ok W n visits.answering
  pub rest : vec_len visits.rest ≡ (n + 63) / 64
  pub lost : vec_len visits.lost ≡ (n + 63) / 64

-- The pairs of p with the states of the row were taken away, and no others.
pub record TakesRow (p : ℕ) (lost : List ℕ) (old new : Relation) : Type 0 where
  pub size : new.size ≡ old.size
  pub valid : IsRelation new
  pub pairs : (r s : ℕ) → Holds new.pairs r s ↔ (Holds old.pairs r s × (r ≡ p → HasBit lost s → ⊥))
