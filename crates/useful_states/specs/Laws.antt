-- The laws of keeping states.
use Rattle.std.specs.Prelude.{◌≡◌, ℕ, List, Contains}
use Rattle.auto_core.specs.Automaton.{Automaton}
use Rattle.auto_core.specs.Accept.{Includes, Same}
use Rattle.auto_core.specs.Useful.{IsUseful, IsKeptPart, IsTrimmed}
use Rattle.auto_core.specs.declared.parts.Mode.{Mode}

-- What keeps some states of A accepts no more than A.
abbrev pub KeptAcceptsNoMore : Type 0
KeptAcceptsNoMore =
    (A B : Automaton) (kept : List ℕ) (mode : Mode) → IsKeptPart A kept B → Includes B A mode

-- What keeps all useful states of A, and maybe others, accepts the same.
abbrev pub KeptAcceptsTheSame : Type 0
KeptAcceptsTheSame =
    (A B : Automaton) (kept : List ℕ) (mode : Mode)
    → ((q : ℕ) → IsUseful A mode q → Contains kept q) → IsKeptPart A kept B → Same A B mode

-- An automaton that is trimmed accepts the same.
abbrev pub TrimmedAcceptsTheSame : Type 0
TrimmedAcceptsTheSame = (A B : Automaton) (mode : Mode) → IsTrimmed A mode B → Same A B mode

-- There is one automaton at most that keeps these states.
abbrev pub KeptIsOne : Type 0
KeptIsOne = (A B C : Automaton) (kept : List ℕ) → IsKeptPart A kept B → IsKeptPart A kept C → B ≡ C

-- There is one automaton at most that is A trimmed.
abbrev pub TrimmedIsOne : Type 0
TrimmedIsOne = (A B C : Automaton) (mode : Mode) → IsTrimmed A mode B → IsTrimmed A mode C → B ≡ C
