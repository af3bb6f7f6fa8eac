-- Relations on states as lists of pairs.
use Rattle.std.specs.Prelude.{◌≡◌, ℕ, ◌<◌, ◌⊎◌, ◌↔◌, List, [], ◌∷◌, Contains}
use Rattle.auto_core.specs.Game.{Holds, ArePairsBelow, Close, Strict}

-- A relation on the states below `size`: the list of its pairs.
pub record Relation : Type 0 where
  pub size : ℕ
  pub pairs : List (ℕ × ℕ)

-- x stands before y: by left state, then by right one.
abbrev pub IsPairBefore : ℕ × ℕ → ℕ × ℕ → Type 0
IsPairBefore x y = (x.0 < y.0) ⊎ ((x.0 ≡ y.0) × (x.1 < y.1))

-- Each pair stands before all later ones.
abbrev pub ArePairsAscending : List (ℕ × ℕ) → Type 0
ArePairsAscending [] = Unit {0}
ArePairsAscending (x ∷ xs) = ((y : ℕ × ℕ) → Contains xs y → IsPairBefore x y) × ArePairsAscending xs

-- A valid relation: both states of each pair are below `size`, and the pairs ascend.
pub record IsRelation (R : Relation) : Type 0 where
  pub in_range : ArePairsBelow R.size R.size R.pairs
  pub in_order : ArePairsAscending R.pairs

-- The new relation is on the same states and holds the pairs of the old one and this pair.
pub record Adds (old new : Relation) (p q : ℕ) : Type 0 where
  pub size : new.size ≡ old.size
  pub pairs : (r s : ℕ) → Holds new.pairs r s ↔ (Holds old.pairs r s ⊎ ((r ≡ p) × (s ≡ q)))

-- The new relation is on the same states and holds the pairs of the old one but for this pair.
pub record Removes (old new : Relation) (p q : ℕ) : Type 0 where
  pub size : new.size ≡ old.size
  pub pairs : (r s : ℕ) → Holds new.pairs r s ↔ (Holds old.pairs r s × ¬ ((r ≡ p) × (s ≡ q)))

-- The new relation is the reflexive and transitive closure of the old one on its states.
pub record IsClosed (old new : Relation) : Type 0 where
  pub size : new.size ≡ old.size
  pub pairs : (p q : ℕ)
      → Holds new.pairs p q ↔ ((p < old.size) × (q < old.size) × Close (Holds old.pairs) p q)

-- The part is on the same states and holds the pairs that the relation holds one way and not the
-- other.
pub record IsStrictPart (whole part : Relation) : Type 0 where
  pub size : part.size ≡ whole.size
  pub pairs : (p q : ℕ) → Holds part.pairs p q ↔ Strict (Holds whole.pairs) p q

-- The list relates numbers below n, each to itself, and p to r if it relates p to q and q to r.
pub record IsPreorder (n : ℕ) (S : List (ℕ × ℕ)) : Type 0 where
  pub in_range : ArePairsBelow n n S
  pub reflexive : (p : ℕ) → p < n → Holds S p p
  pub transitive : (p q r : ℕ) → Holds S p q → Holds S q r → Holds S p r
