-- From which states a move leads to a state, as rows of bits.
use Rattle.std.specs.Prelude.{ℕ, ◌+◌, ◌*◌, ◌<◌, ◌↔◌}
use Rattle.auto_core.specs.Rows.{HasCell}
use Rattle.look_round.specs.declared.arrivals.Arrivals.{Arrivals}

-- The row of r tells, letter by letter, from which states a move of M leads to it.
abbrev pub IsRowOfArrivals : (ℕ → ℕ → ℕ → Type 0) → Arrivals → ℕ → Type 0
IsRowOfArrivals M rows r = (a q : ℕ) → a < rows.labels → q < rows.width * 64
    → HasCell rows.table.items (rows.labels * rows.width) r (a * rows.width * 64 + q) ↔ M q a r

-- So does the row of each state that has one.
abbrev pub AreArrivals : (ℕ → ℕ → ℕ → Type 0) → Arrivals → Type 0
AreArrivals M rows = (r : ℕ) → r < rows.kept → IsRowOfArrivals M rows r
