-- Relations from places to states, and how `Board` holds them.
use Rattle.std.specs.Prelude.{◌≡◌, ℕ, ◌+◌, ◌*◌, ◌/◌, ◌<◌, ◌≤◌, ◌↔◌, List, length}
use Rattle.auto_core.specs.Game.{Holds, ArePairsBelow}
use Rattle.auto_core.specs.Rows.{cell_of, HasBit, HasCell}
use Rattle.bit_rel.specs.Relation.{ArePairsAscending}
use Rattle.bit_rel.specs.Stored.{pairs_below}
use Rattle.delayed_game.specs.declared.board.Board.TheInside.{Inside}

-- A relation from the places below `places` to the states below `states`: the list of its pairs.
pub record Pairing : Type 0 where
  pub places : ℕ
  pub states : ℕ
  pub pairs : List (ℕ × ℕ)

-- A valid one: its pairs are in range and ascend, and so there are at most so many.
pub record IsPairing (R : Pairing) : Type 0 where
  pub in_range : ArePairsBelow R.places R.states R.pairs
  pub in_order : ArePairsAscending R.pairs
  pub few : length R.pairs ≤ R.places * R.states

-- The new one is on the same places and states and holds the pairs of the old one but for this
-- pair.
pub record Removes (old new : Pairing) (x q : ℕ) : Type 0 where
  pub places : new.places ≡ old.places
  pub states : new.states ≡ old.states
  pub pairs : (y s : ℕ) → Holds new.pairs y s ↔ (Holds old.pairs y s × ¬ ((y ≡ x) × (s ≡ q)))

-- The new one is on the same places and states and holds the pairs of the old one, of the place x
-- those alone whose state the row has.
pub record IsNarrowed (old new : Pairing) (x : ℕ) (row : List ℕ) : Type 0 where
  pub places : new.places ≡ old.places
  pub states : new.states ≡ old.states
  pub pairs : (y s : ℕ) → Holds new.pairs y s ↔ (Holds old.pairs y s × (y ≡ x → HasBit row s))

-- The relation that a table of bits with a row for each place stands for.
abbrev pub table_pairing : List ℕ → ℕ → ℕ → ℕ → Pairing
table_pairing table width m n =
    record { places = m; states = n; pairs = pairs_below (cell_of table width) n m }

-- What the fields stand for.
abbrev pub pairing_of : Inside → Pairing
pairing_of b = table_pairing b.table.items b.width b.places b.states

-- They fit one another, and each bit is in the column of a state.
pub record IsStoredPairing (b : Inside) : Type 0 where
  pub width : b.width ≡ (b.states + 63) / 64
  pub len : length b.table.items ≡ b.places * b.width
  pub columns : (x q : ℕ) → x < b.places → q < b.width * 64 → HasCell b.table.items b.width x q
      → q < b.states
