-- Rows of marks of states.
use Rattle.std.specs.Prelude.{◌≡◌, ℕ, ◌+◌, ◌/◌, length}
use Rattle.look_game.specs.declared.game.Marks.{Marks}

-- Each of the rows has a bit for each of so many states.
pub record HasRowsFor (states : ℕ) (marks : Marks) : Type 0 where
  pub tried : length marks.tried.items ≡ (states + 63) / 64
  pub changed : length marks.changed.items ≡ (states + 63) / 64
  pub spare : length marks.spare.items ≡ (states + 63) / 64
