-- Which lines a cross relation's text may begin with, as a certificate's.
use Rattle.std.specs.Prelude.{◌≡◌, ◌↔◌, ℕ, ◌+◌, ◌<◌, ◌≤◌, List, [], ◌∷◌, ◌++◌, length, codes}
use Rattle.cert_text.specs.declared.faults.TextFault.{TextFault}
use Rattle.cert_line.specs.declared.faults.TextKind.TheVariants.{Header, Truncated}
use Rattle.cert_text.specs.declared.cross.Cross.{Cross}
use Rattle.cert_text.specs.CrossText.{CrossFormed, cross_text}
use Rattle.cert_text.specs.CrossGrammar.{FirstCrossFault}
use Rattle.cert_text.specs.FirstFaults.{whole_lines}
use Rattle.cert_text.specs.Admitted.{with_ends, AreAdmittedBy}
use Rattle.cert_text.specs.Crosses.{BeginCross}

-- The first n lines are whole, and are admitted in a cross relation's text.
abbrev pub AreCrossAdmitted : ℕ → List ℕ → Type 0
AreCrossAdmitted = AreAdmittedBy FirstCrossFault

-- The first fault stands at the first line with which the lines up to it are not admitted: none is
-- refused for what follows it.
abbrev pub CrossFaultEndsAdmitted : Type 0
CrossFaultEndsAdmitted =
    (bytes : List ℕ) (fault : TextFault) → FirstCrossFault bytes fault → (n : ℕ)
    → (n < fault.line) ↔ AreCrossAdmitted n bytes

-- Lines with which a cross relation's text begins are admitted.
abbrev pub CrossLinesAreAdmitted : Type 0
CrossLinesAreAdmitted = (n : ℕ) (bytes : List ℕ) → BeginCross n bytes → AreCrossAdmitted n bytes

-- The bytes begin with no cross relation's text.
abbrev pub HoldsNoCrossText : List ℕ → Type 0
HoldsNoCrossText bytes =
    (c : Cross) (more : List ℕ) → CrossFormed c → bytes ≡ cross_text c ++ more → ⊥

-- That the text ends too soon is told in the line after all whole ones.
abbrev pub CrossTruncatedAtTheEnd : Type 0
CrossTruncatedAtTheEnd =
    (bytes : List ℕ) (fault : TextFault) → FirstCrossFault bytes fault → fault.kind ≡ Truncated
    → fault.line ≡ length (whole_lines bytes) + 1

-- The text ends too soon just where all its whole lines are admitted and it begins with no cross
-- relation's text.
abbrev pub CrossTruncatedJustWhere : Type 0
CrossTruncatedJustWhere =
    (bytes : List ℕ)
    → FirstCrossFault bytes (record { line = length (whole_lines bytes) + 1; kind = Truncated })
    ↔ (AreCrossAdmitted (length (whole_lines bytes)) bytes × HoldsNoCrossText bytes)

-- A wrong heading is told in the first line, which is whole and is no cross relation's first line.
abbrev pub CrossHeaderInLineOne : Type 0
CrossHeaderInLineOne =
    (bytes : List ℕ) (fault : TextFault)
    → FirstCrossFault bytes fault
    → fault.kind ≡ Header
    → (fault.line ≡ 1) × (1 ≤ length (whole_lines bytes)) × (BeginCross 1 bytes → ⊥)

-- The heading is wrong just where the first line is whole and is no cross relation's first line.
abbrev pub CrossHeaderJustWhere : Type 0
CrossHeaderJustWhere =
    (bytes : List ℕ)
    → FirstCrossFault bytes (record { line = 1; kind = Header })
    ↔ ((1 ≤ length (whole_lines bytes)) × (BeginCross 1 bytes → ⊥))

-- After these lines a second row is due, whose number would have to exceed the greatest one that a
-- text can write.
abbrev pub cross_endless : List ℕ
cross_endless =
    with_ends
    (codes "rabit-cross 1"
    ∷ codes "sizes 1 1 1"
    ∷ codes "look 1"
    ∷ codes "rel 2"
    ∷ codes "row 999999999 0"
    ∷ [])

-- They are admitted, and no cross relation's text begins with them: here no line is refused for
-- what could not follow it.
abbrev pub CrossEndlessIsAdmitted : Type 0
CrossEndlessIsAdmitted = AreCrossAdmitted 5 cross_endless × (BeginCross 5 cross_endless → ⊥)
