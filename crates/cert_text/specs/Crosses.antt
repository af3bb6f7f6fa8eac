-- The first fault of bytes that are no cross relation's text, told by the texts of cross relations.
use Rattle.std.specs.Prelude.{◌≡◌, ◌≢◌, ◌↔◌, ◌⊎◌, ℕ, ◌+◌, ◌<◌, ◌≤◌, List, [], ◌++◌, length, Ok}
use Rattle.cert_text.specs.declared.faults.TextFault.{TextFault}
use Rattle.cert_line.specs.declared.faults.TextKind.TheVariants.{Truncated, Trailing}
use Rattle.cert_text.specs.declared.cross.Cross.{Cross}
use Rattle.cert_text.specs.CrossText.{CrossFormed, cross_text}
use Rattle.cert_text.specs.CrossGrammar.{cross_reading, FirstCrossFault}
use Rattle.cert_text.specs.FirstFaults.{whole_lines, BeginAlike}

-- Bytes are read as a cross relation just where it has a text and they are that.
abbrev pub CrossTextsAreRead : Type 0
CrossTextsAreRead =
    (bytes : List ℕ) (c : Cross)
    → (cross_reading bytes ≡ Ok c) ↔ (CrossFormed c × (bytes ≡ cross_text c))

-- Bytes are a cross relation's text, or they have a first fault.
abbrev pub CrossTextOrFault : Type 0
CrossTextOrFault =
    (bytes : List ℕ)
    → ((c : Cross) × CrossFormed c × (bytes ≡ cross_text c))
    ⊎ ((fault : TextFault) × FirstCrossFault bytes fault)

-- No text of a cross relation has a first fault.
abbrev pub NoCrossTextHasFault : Type 0
NoCrossTextHasFault =
    (c : Cross) (fault : TextFault) → CrossFormed c → FirstCrossFault (cross_text c) fault → ⊥

-- Bytes have one first fault at most.
abbrev pub OneFirstCrossFault : Type 0
OneFirstCrossFault =
    (bytes : List ℕ) (fault other : TextFault) → FirstCrossFault bytes fault
    → FirstCrossFault bytes other → fault ≡ other

-- The first n lines of the bytes are whole, and are the first n lines of a cross relation's text.
abbrev pub BeginCross : ℕ → List ℕ → Type 0
BeginCross n bytes = (c : Cross) × CrossFormed c × BeginAlike n bytes (cross_text c)

-- If the first n lines begin a cross relation's text, a first fault stands after line n.
abbrev pub CrossFaultStandsLater : Type 0
CrossFaultStandsLater =
    (bytes : List ℕ) (n : ℕ) (fault : TextFault) → BeginCross n bytes → FirstCrossFault bytes fault
    → n < fault.line

-- If the first fault is neither that the text ends too soon nor that it goes on, its line is whole,
-- and the lines up to that one begin no cross relation's text.
abbrev pub CrossLinesBeginNone : Type 0
CrossLinesBeginNone =
    (bytes : List ℕ) (fault : TextFault)
    → FirstCrossFault bytes fault
    → fault.kind ≢ Truncated
    → fault.kind ≢ Trailing
    → (fault.line ≤ length (whole_lines bytes)) × (BeginCross fault.line bytes → ⊥)

-- What follows a cross relation's text is trailing, in the line after the text's lines.
abbrev pub CrossMoreIsTrailing : Type 0
CrossMoreIsTrailing =
    (c : Cross) (more : List ℕ)
    → CrossFormed c
    → more ≢ []
    → FirstCrossFault (cross_text c ++ more)
    (record { line = length (whole_lines (cross_text c)) + 1; kind = Trailing })

-- What is told to be trailing follows a cross relation's text.
abbrev pub CrossTrailingFollowsText : Type 0
CrossTrailingFollowsText =
    (bytes : List ℕ) (fault : TextFault)
    → FirstCrossFault bytes fault
    → fault.kind ≡ Trailing
    → (c : Cross) × (more : List ℕ) × CrossFormed c × (more ≢ []) × (bytes ≡ cross_text c ++ more)
