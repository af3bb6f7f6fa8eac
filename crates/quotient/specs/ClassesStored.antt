-- How `Classes` holds the classes.
use Rattle.std.specs.Prelude.{ℕ, ◌≤◌, List, length}
use Rattle.auto_core.specs.Quotient.{AreClasses}
use Rattle.quotient.specs.Counting.{IsCount}
use Rattle.quotient.specs.declared.classes.Classes.TheInside.{Inside}

-- The classes that the fields stand for.
abbrev pub classes_in : Inside → List ℕ
classes_in c = c.of.items

-- They are classes, and so many.
pub record IsCounted (c : Inside) : Type 0 where
  pub valid : AreClasses c.of.items
  pub count : IsCount c.of.items (length c.of.items) c.count
  pub few : c.count ≤ length c.of.items
