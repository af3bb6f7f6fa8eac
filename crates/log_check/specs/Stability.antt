-- Stability of a relation on the states below a number, pair by pair.
use Rattle.std.specs.Prelude.{ℕ, ◌<◌}
use Rattle.auto_core.specs.Game.{Round}

-- The pair, if the relation W has it, matches and has its round.
abbrev pub IsPairStable : (ℕ → ℕ → ℕ → Type 0) → (ℕ → ℕ → Type 0) → ℕ → (ℕ → ℕ → Type 0) → ℕ → ℕ
    → Type 0
IsPairStable M ok k W p q = W p q → ok p q × Round M M ok k W p q

-- So do the pairs of p with the states below n.
abbrev pub IsRowStable : (ℕ → ℕ → ℕ → Type 0) → (ℕ → ℕ → Type 0) → ℕ → (ℕ → ℕ → Type 0) → ℕ → ℕ
    → Type 0
IsRowStable M ok k W n p = (q : ℕ) → q < n → IsPairStable M ok k W p q
