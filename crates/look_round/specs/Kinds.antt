-- Kinds of states: those that match each other ask for the same.
use Rattle.std.specs.Prelude.{◌≡◌, ℕ, ◌<◌, List, length, slice_index}

-- The states match each other.
abbrev pub MatchEachOther : (ℕ → ℕ → Type 0) → ℕ → ℕ → Type 0
MatchEachOther ok p s = ok p s × ok s p

-- Each of the n states has a number in the list, and is of the kind of the state at that place
-- among `kinds`, if there is one.
abbrev pub AreKinds : (ℕ → ℕ → Type 0) → ℕ → List ℕ → List ℕ → Type 0
AreKinds ok n kinds numbers =
    (length numbers ≡ n)
    × ((p : ℕ) → p < n → slice_index numbers p < length kinds
    → MatchEachOther ok p (slice_index kinds (slice_index numbers p)))
