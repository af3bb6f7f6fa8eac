-- Bytes cut into lines, and a line into tokens.
use Rattle.std.specs.Prelude.{ℕ, List, [], ◌==◌, Option, Some, None}
use Rattle.std.specs.List.{slice_split}
use Rattle.cert_value.specs.Text.{Line}

-- The line cut at its spaces.
abbrev pub tokens_of : List ℕ → Line
tokens_of line = slice_split (λ b. b == 32) line

-- The tokens of what is left of a line.
abbrev pub tokens_left : Option (List ℕ) → Line
tokens_left None = []
tokens_left (Some line) = tokens_of line
