-- How `LetterClasses` holds the classes.
use Rattle.std.specs.Prelude.{ℕ, List}
use Rattle.letter_classes.specs.Columns.{AreLetterClasses}
use Rattle.letter_classes.specs.declared.classes.LetterClasses.TheInside.{Inside}

-- The classes that the fields stand for.
abbrev pub classes_of_fields : Inside → List ℕ
classes_of_fields c = c.of.items

-- They are classes, and so many.
abbrev pub IsCounted : Inside → Type 0
IsCounted c = AreLetterClasses c.of.items c.count
