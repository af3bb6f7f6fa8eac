-- Which right numbers can be raised.
use Rattle.std.specs.Prelude.{ℕ, ◌+◌, ◌<◌, ◌^◌, List, All}
use Rattle.cert_value.specs.declared.types.Row.{Row}
use Rattle.cert_value.specs.declared.types.Run.{Run}

-- Both ends of each run stay numbers of 32 bits when they are raised by n.
abbrev pub AreRunsBelow : ℕ → List Run → Type 0
AreRunsBelow n runs = All (λ (run : Run). (run.first + n < 2 ^ 32) × (run.last + n < 2 ^ 32)) runs

-- So do those of each row.
abbrev pub AreRowsBelow : ℕ → List Row → Type 0
AreRowsBelow n rows = All (λ (row : Row). AreRunsBelow n row.runs) rows
