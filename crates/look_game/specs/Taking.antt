-- Taking pairs away until each that is left has its round.
use Rattle.std.specs.Prelude.{◌≡◌, ℕ, ◌<◌, ◌↔◌, ◌⊎◌, List, length}
use Rattle.auto_core.specs.Game.{Round, Stable, Holds, ArePairsBelow, IsWithin}
use Rattle.bit_rel.specs.Relation.{Relation, IsRelation}

-- The new relation holds besides the old one's pairs those of p and a state below n that matches
-- it.
pub record AddsMatching (ok : ℕ → ℕ → Type 0) (n p : ℕ) (old new : Relation) : Type 0 where
  pub size : new.size ≡ old.size
  pub valid : IsRelation new
  pub pairs : (r s : ℕ) → Holds new.pairs r s ↔ (Holds old.pairs r s ⊎ ((r ≡ p) × (s < n) × ok r s))

-- The relation is on n states and holds all pairs of them that match.
pub record IsMatching (ok : ℕ → ℕ → Type 0) (n : ℕ) (R : Relation) : Type 0 where
  pub size : R.size ≡ n
  pub valid : IsRelation R
  pub pairs : (p q : ℕ) → Holds R.pairs p q ↔ ((p < n) × (q < n) × ok p q)

-- Pairs were taken away, but none that some stable list holds which is inside the old relation.
pub record TakesAway (M : ℕ → ℕ → ℕ → Type 0) (ok : ℕ → ℕ → Type 0) (k : ℕ)
    (old new : Relation) : Type 0 where
  pub size : new.size ≡ old.size
  pub valid : IsRelation new
  pub within : IsWithin new.pairs old.pairs
  pub leaves : (T : List (ℕ × ℕ)) → Stable M M ok k (Holds T) → IsWithin T old.pairs
      → IsWithin T new.pairs

-- All pairs stay whose left state is not p.
abbrev pub KeepsOthers : ℕ → Relation → Relation → Type 0
KeepsOthers p old new = (r s : ℕ) → ¬ (r ≡ p) → Holds old.pairs r s → Holds new.pairs r s

-- The new relation has fewer pairs.
abbrev pub TakesSome : Relation → Relation → Type 0
TakesSome old new = length new.pairs < length old.pairs

-- Each pair whose left state is p has its round.
abbrev pub HasRounds : (ℕ → ℕ → ℕ → Type 0) → (ℕ → ℕ → Type 0) → ℕ → Relation → ℕ → Type 0
HasRounds M ok k R p = (q : ℕ) → Holds R.pairs p q → Round M M ok k (Holds R.pairs) p q

-- The pairs are of states below n and match, and each stable list of pairs of such states is
-- inside.
pub record HasStable (M : ℕ → ℕ → ℕ → Type 0) (ok : ℕ → ℕ → Type 0) (k n : ℕ)
    (S : List (ℕ × ℕ)) : Type 0 where
  pub in_range : ArePairsBelow n n S
  pub matching : (p q : ℕ) → Holds S p q → ok p q
  pub has_each : (T : List (ℕ × ℕ)) → ArePairsBelow n n T → Stable M M ok k (Holds T) → IsWithin T S
