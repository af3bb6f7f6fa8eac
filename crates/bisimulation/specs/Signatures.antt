-- Signatures: by which letters the moves of a state lead to which classes.
use Rattle.std.specs.Prelude.{◌≡◌, ℕ, ◌+◌, ◌*◌, ◌^◌, ◌<◌, ◌⊎◌, ◌↔◌, List, length, Contains, slice_index, Vec}
use Rattle.std.specs.declared.alloc.Global.{Global}
use Rattle.std.specs.List.Sorted.{IsStrictlyIncreasing}
use Rattle.auto_core.specs.Automaton.{Automaton, Moves}
use Rattle.auto_core.specs.Quotient.{class_of}
use Rattle.evidence.specs.Tables.{numbers_at}

-- Two numbers below 2^32 as one.
abbrev pub packed : ℕ → ℕ → ℕ
packed high low = high * 2 ^ 32 + low

-- The number stands for a move of p: for its letter and the class to which it leads.
abbrev pub IsMark : Automaton → List ℕ → ℕ → ℕ → Type 0
IsMark A classes p mark = (a r : ℕ) × Moves A p a r × (mark ≡ packed a (class_of classes r))

-- The list has just what stands for moves of p, ascending.
pub record IsSignature (A : Automaton) (classes : List ℕ) (p : ℕ) (list : List ℕ) : Type 0 where
  pub rising : IsStrictlyIncreasing list
  pub marks : (mark : ℕ) → Contains list mark ↔ IsMark A classes p mark

-- The list with the number is the signature of p.
abbrev pub IsSignedBy : Automaton → List ℕ → List (Vec ℕ Global) → ℕ → ℕ → Type 0
IsSignedBy A classes table p number =
    (number < length table) × IsSignature A classes p (numbers_at table number)

-- No list stands twice in the table.
abbrev pub AreDifferent : List (Vec ℕ Global) → Type 0
AreDifferent table =
    (i j : ℕ) → i < length table → j < length table → numbers_at table i ≡ numbers_at table j
    → i ≡ j

-- What stood in the old table stands in the new one under the same number.
abbrev pub KeepsNumbers : List (Vec ℕ Global) → List (Vec ℕ Global) → Type 0
KeepsNumbers old new =
    (i : ℕ) → i < length old → (i < length new) × (numbers_at new i ≡ numbers_at old i)

-- The states of the list have been signed; no other sign has changed.
pub record AreSigned (A : Automaton) (classes : List ℕ) (old_table new_table : List (Vec ℕ Global))
    (states old new : List ℕ) : Type 0 where
  pub size : length new ≡ length old
  pub different : AreDifferent new_table
  pub keeps : KeepsNumbers old_table new_table
  pub signed : (p : ℕ) → Contains states p → IsSignedBy A classes new_table p (slice_index new p)
  pub others : (p : ℕ) → Contains states p ⊎ (slice_index new p ≡ slice_index old p)
