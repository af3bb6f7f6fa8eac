-- How a text is cut at its first LF.
use Rattle.std.specs.Prelude.{◌≡◌, ℕ, ◌<◌, ◌==◌, Bool, List, ◌∷◌, ◌++◌, length}
use Rattle.std.specs.List.{position_or_len}

-- LF ends a line.
abbrev pub is_newline : ℕ → Bool
is_newline b = b == 10

-- A line of the text ends.
abbrev pub HasNewline : List ℕ → Type 0
HasNewline text = position_or_len is_newline text < length text

-- None does.
abbrev pub IsUnfinished : List ℕ → Type 0
IsUnfinished text = position_or_len is_newline text ≡ length text

-- The text begins with this line, and goes on with the rest after the line's LF.
abbrev pub IsLineCut : List ℕ → List ℕ → List ℕ → Type 0
IsLineCut text line rest = IsUnfinished line × (text ≡ line ++ 10 ∷ rest)
