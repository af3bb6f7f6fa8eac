-- What one state asks of another at once in delayed simulation.
use Rattle.std.specs.Prelude.{ℕ}

-- Nothing: each state matches each.
abbrev pub AsksNothing : ℕ → ℕ → Type 0
AsksNothing p q = Unit {0}
