-- Which rows a change of others can touch: a round from p ends in states that are reached from p in
-- as many moves as are looked ahead.
use Rattle.std.specs.Prelude.{◌≡◌, ℕ, zero, suc, ◌<◌, ◌⊎◌, List}
use Rattle.auto_core.specs.Rows.{HasBit}
use Rattle.bit_rel.specs.Relation.{Relation}
use Rattle.look_game.specs.Taking.{HasRounds}

-- From p the state r is reached in at least one move and at most k.
abbrev pub IsReachedWithin : (ℕ → ℕ → ℕ → Type 0) → ℕ → ℕ → ℕ → Type 0
IsReachedWithin M zero p r = ⊥
IsReachedWithin M (suc k) p r = (a m : ℕ) × M p a m × ((m ≡ r) ⊎ IsReachedWithin M k m r)

-- No marked state is reached so from p.
abbrev pub IsFarFrom : (ℕ → ℕ → ℕ → Type 0) → ℕ → List ℕ → ℕ → Type 0
IsFarFrom M k marks p = (r : ℕ) → HasBit marks r → IsReachedWithin M k p r → ⊥

-- Of the states below n, each from which a marked state is reached so has its bit in `near`.
abbrev pub MarksNear : (ℕ → ℕ → ℕ → Type 0) → ℕ → ℕ → List ℕ → List ℕ → Type 0
MarksNear M n k marks near =
    (p r : ℕ) → p < n → HasBit marks r → IsReachedWithin M k p r → HasBit near p

-- Each pair whose left state is not marked has its round.
abbrev pub HasOtherRounds : (ℕ → ℕ → ℕ → Type 0) → (ℕ → ℕ → Type 0) → ℕ → Relation → List ℕ → Type 0
HasOtherRounds M ok k R marks = (p : ℕ) → (HasBit marks p → ⊥) → HasRounds M ok k R p
