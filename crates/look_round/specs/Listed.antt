-- States that are listed at the places of an array, one list after another.
use Rattle.std.specs.Prelude.{◌≡◌, ℕ, ◌<◌, ◌≤◌, ◌↔◌, List, length, slice_index}

-- The state q is at one of the places from `at` on and before `end`.
abbrev pub IsListedWithin : List ℕ → ℕ → ℕ → ℕ → Type 0
IsListedWithin listed at end q = (i : ℕ) × (at ≤ i) × (i < end) × (slice_index listed i ≡ q)

-- The places before `end` are the same in both.
abbrev pub KeepsListed : List ℕ → List ℕ → ℕ → Type 0
KeepsListed old new end =
    (length new ≡ length old) × ((i : ℕ) → i < end → slice_index new i ≡ slice_index old i)

-- From place `from` on states below n were written, up to place `to`, and no place before. They are
-- just those with P, if there is room for more.
pub record Lists (old new : List ℕ) (from to n : ℕ) (P : ℕ → Type 0) : Type 0 where
  pub upward : from ≤ to
  pub inside : to ≤ length new
  pub kept : KeepsListed old new from
  pub below : (r : ℕ) → IsListedWithin new from to r → r < n
  pub just : to < length new → (r : ℕ) → IsListedWithin new from to r ↔ P r
