-- What is added to one row of a table, and joined over the places that have a mark.
use Rattle.std.specs.Prelude.{◌≡◌, ℕ, ◌+◌, ◌*◌, ◌<◌, ◌↔◌, ◌⊎◌, List}
use Rattle.auto_core.specs.Rows.{HasBit, HasCell, cell_of}

-- The row has, besides its old bits, those of the columns of P; the other rows are as they were.
pub record HasAdded (width row : ℕ) (P : ℕ → Type 0) (old new : List ℕ) : Type 0 where
  pub here : (q : ℕ) → q < width * 64 → HasCell new width row q ↔ (HasCell old width row q ⊎ P q)
  pub others : (p q : ℕ) → q < width * 64 → ¬ (p ≡ row)
      → cell_of new width p q ≡ cell_of old width p q

-- What R leads to from the places that have the mark.
abbrev pub FollowsFrom : (ℕ → Type 0) → (ℕ → ℕ → Type 0) → ℕ → Type 0
FollowsFrom From R q = (m : ℕ) × From m × R m q

-- So many bits of the words say, from the column on, what R leads to from the places that have the
-- mark.
abbrev pub IsUnionOfRows : (ℕ → Type 0) → (ℕ → ℕ → Type 0) → ℕ → ℕ → List ℕ → Type 0
IsUnionOfRows From R column len words =
    (i : ℕ) → i < len → HasBit words i ↔ FollowsFrom From R (column + i)
