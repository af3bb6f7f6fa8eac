-- What is left of a text that is read line by line to a value, against what the grammar takes off
-- the lines.
use Rattle.std.specs.Prelude.{◌≡◌, ℕ, ◌+◌, List, [], ◌∷◌, length, true, Result, Ok, Err}
use Rattle.cert_value.specs.Text.{Line}
use Rattle.cert_value.specs.WellFormed.{has_some}
use Rattle.cert_line.specs.declared.faults.LineFault.{LineFault}
use Rattle.cert_line.specs.declared.faults.TextKind.TheVariants.{Truncated}
use Rattle.cert_text.specs.declared.faults.CertReadFault.{CertReadFault}
use Rattle.cert_text.specs.declared.faults.CertReadFault.TheVariants.{Text, Memory}
use Rattle.cert_text.specs.Grammar.{LinesOutcome, On, Read, Stopped, finish}
use Rattle.cert_text.specs.Told.{located}

-- The lines that are left, and the number of the first of them.
abbrev pub Left : Type 0
Left = List Line × ℕ

-- The number of the first line after all: it stays as lines are read.
abbrev pub past : Left → ℕ
past left = left.1 + length left.0

-- It goes on where the grammar does, with what the grammar reads, and stops where the grammar
-- stops; or memory was refused.
abbrev pub ReadsOn : {C A : Type 0} → (On C A → List Line → LinesOutcome C) → Left → Left
    → Result A CertReadFault → Type 0
ReadsOn {C} {A} part old new (Ok a) =
    (past new ≡ past old) × ((next : On C A) → part next old.0 ≡ next a new.0)
ReadsOn {C} {A} part old new (Err (Text fault)) =
    (here : List Line) × (fault.line + length here ≡ past old)
    × ((next : On C A) → part next old.0 ≡ Stopped fault.kind here)
ReadsOn {C} {A} part old new (Err Memory) = Unit {0}

-- This line, which is whole, was taken off.
abbrev pub TakesLineOff : Left → Left → Line → Type 0
TakesLineOff old new line = (old.0 ≡ line ∷ new.0) × (has_some new.0 ≡ true) × (past new ≡ past old)

-- No whole line is left: the last piece of the bytes is none.
abbrev pub RunsOut : Left → CertReadFault → Type 0
RunsOut left (Text fault) =
    (piece : Line) × (left.0 ≡ piece ∷ []) × (fault ≡ record { line = left.1; kind = Truncated })
RunsOut left Memory = ⊥

-- What a line says, its fault at the line with this number.
abbrev pub placed : {A : Type 0} → ℕ → Result A LineFault → Result A CertReadFault
placed line (Ok a) = Ok a
placed line (Err fault) = Err (located line fault)

-- No byte is left, or the first line that is left is one too many.
abbrev pub IsAtEnd : Type 0 → Left → Result (Unit {0}) CertReadFault → Type 0
IsAtEnd C left (Ok x) = (c : C) → finish c left.0 ≡ Read c
IsAtEnd C left (Err (Text fault)) =
    (fault.line ≡ left.1) × ((c : C) → finish c left.0 ≡ Stopped fault.kind left.0)
IsAtEnd C left (Err Memory) = ⊥
