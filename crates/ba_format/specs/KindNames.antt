-- The names of the kinds of faults.
use Rattle.std.specs.Prelude.{ℕ, List, codes}
use Rattle.ba_format.specs.declared.parts.BaKind.{BaKind}
use Rattle.ba_format.specs.declared.parts.BaKind.TheVariants as kind

-- The name of a fault of a `.ba` text.
abbrev pub kind_name : BaKind → List ℕ
kind_name (kind.Empty) = codes "Empty"
kind_name (kind.BadByte) = codes "BadByte"
kind_name (kind.Shape) = codes "Shape"
kind_name (kind.EmptyToken) = codes "EmptyToken"
kind_name (kind.TokenLong) = codes "TokenLong"
kind_name (kind.TwoInitial) = codes "TwoInitial"
kind_name (kind.TooManyStates) = codes "TooManyStates"
kind_name (kind.TooManyLabels) = codes "TooManyLabels"
kind_name (kind.TooManyTransitions) = codes "TooManyTransitions"
