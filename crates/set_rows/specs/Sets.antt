-- Sets of states as rows of bits.
use Rattle.std.specs.Prelude.{◌≡◌, ℕ, ◌+◌, ◌/◌, List, length}
use Rattle.auto_core.specs.Reach.{MarksBelow}
use Rattle.auto_core.specs.Rows.{HasBit}

-- The row is one for n states, and has bits for them alone.
pub record IsRow (n : ℕ) (row : List ℕ) : Type 0 where
  pub len : length row ≡ (n + 63) / 64
  pub below : MarksBelow row n

-- Each member of the first set is one of the second.
abbrev pub IsSubset : List ℕ → List ℕ → Type 0
IsSubset row other = (q : ℕ) → HasBit row q → HasBit other q

-- S relates q to a member of the set.
abbrev pub IsBelow : (ℕ → ℕ → Type 0) → List ℕ → ℕ → Type 0
IsBelow S row q = (r : ℕ) × HasBit row r × S q r

-- S relates each member of the first set to a member of the second.
abbrev pub IsCovered : (ℕ → ℕ → Type 0) → List ℕ → List ℕ → Type 0
IsCovered S row other = (q : ℕ) → HasBit row q → IsBelow S other q
