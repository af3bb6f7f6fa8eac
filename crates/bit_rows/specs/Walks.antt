-- Walks along the bits of a row.
use Rattle.std.specs.Prelude.{◌≡◌, ℕ, ◌*◌, ◌<◌, ◌≤◌, false, List, length}
use Rattle.auto_core.specs.Rows.{bit_of, HasBit}

-- Bit i is the first of the row from this place on.
pub record IsNextBit (row : List ℕ) (from i : ℕ) : Type 0 where
  pub here : HasBit row i
  pub behind : from ≤ i
  pub within : i < length row * 64
  pub none_between : (j : ℕ) → from ≤ j → j < i → bit_of row j ≡ false
