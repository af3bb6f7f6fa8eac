-- The rows of a relation.
use Rattle.std.specs.Prelude.{◌≡◌, ℕ, ◌+◌, ◌<◌, ◌≤◌, ◌↔◌, true, List, length, Contains}
use Rattle.std.specs.List.{flat_map}
use Rattle.auto_core.specs.Game.{Holds}
use Rattle.cert_value.specs.declared.types.Row.{Row}
use Rattle.cert_value.specs.WellFormed.{ascend, are_rows}
use Rattle.log_check.specs.Blocks.{pairs_of_row}

-- Of the `count` numbers from n on, S holds p with the one at place q.
abbrev pub HoldsFrom : List (ℕ × ℕ) → ℕ → ℕ → ℕ → ℕ → Type 0
HoldsFrom S n count p q = (q < count) × Holds S p (n + q)

-- Just the numbers that W relates the left state to, ascending.
pub record AreRights (W : ℕ → ℕ → Type 0) (left : ℕ) (rights : List ℕ) : Type 0 where
  pub ascending : ascend rights ≡ true
  pub has : (q : ℕ) → Contains rights q ↔ W left q

-- Just the pairs of W with a left number below `upto`, in rows as they are written.
pub record AreRows (W : ℕ → ℕ → Type 0) (upto : ℕ) (rows : List Row) : Type 0 where
  pub formed : are_rows 0 rows ≡ true
  pub has : (p q : ℕ) → Holds (flat_map pairs_of_row rows) p q ↔ ((p < upto) × W p q)
  pub below : (row : Row) → Contains rows row → row.left < upto
  pub few : length rows ≤ upto
