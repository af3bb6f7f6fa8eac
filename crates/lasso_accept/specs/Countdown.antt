-- From where a place is reached in so many arcs.
use Rattle.std.specs.Prelude.{◌≡◌, ◌↔◌, ℕ, ◌*◌, ◌<◌, List, length}
use Rattle.auto_core.specs.Rows.{HasCell}
use Rattle.auto_core.specs.Game.{Chain}

-- The row with number k has the places from which just k arcs lead to the target; there are n rows.
pub record IsCountdown (R : ℕ → ℕ → Type 0) (n width target : ℕ) (table : List ℕ) : Type 0 where
  pub len : length table ≡ n * width
  pub chains : (k p : ℕ) → k < n → p < n → HasCell table width k p ↔ Chain R k p target
