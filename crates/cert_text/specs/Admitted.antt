-- Which lines a text may begin with: lines that hold no fault where nothing follows them.
use Rattle.std.specs.Prelude.{◌≡◌, ◌↔◌, ℕ, ◌+◌, ◌<◌, ◌≤◌, List, [], ◌∷◌, ◌++◌, length, take, codes}
use Rattle.cert_value.specs.declared.types.Cert.{Cert}
use Rattle.cert_text.specs.declared.faults.TextFault.{TextFault}
use Rattle.cert_line.specs.declared.faults.TextKind.TheVariants.{Header, Truncated}
use Rattle.cert_value.specs.Text.{text}
use Rattle.cert_value.specs.WellFormed.{WellFormed}
use Rattle.cert_text.specs.Law.{FirstFault}
use Rattle.cert_text.specs.FirstFaults.{whole_lines, BeginCert}

-- The lines, each with its LF.
abbrev pub with_ends : List (List ℕ) → List ℕ
with_ends [] = []
with_ends (line ∷ lines) = line ++ 10 ∷ with_ends lines

-- The bytes of the first n whole lines, and nothing after them.
abbrev pub first_part : ℕ → List ℕ → List ℕ
first_part n bytes = with_ends (take n (whole_lines bytes))

-- The first n lines are whole and admitted: a text that ends after them would have no fault at one
-- of them.
pub record AreAdmittedBy (IsFirst : List ℕ → TextFault → Type 0) (n : ℕ)
    (bytes : List ℕ) : Type 0 where
  pub whole : n ≤ length (whole_lines bytes)
  pub sound : (fault : TextFault) → IsFirst (first_part n bytes) fault → n < fault.line

-- They are admitted in a certificate's text.
abbrev pub AreAdmitted : ℕ → List ℕ → Type 0
AreAdmitted = AreAdmittedBy FirstFault

-- The first fault stands at the first line with which the lines up to it are not admitted: none is
-- refused for what follows it.
abbrev pub FaultEndsAdmitted : Type 0
FaultEndsAdmitted =
    (bytes : List ℕ) (fault : TextFault) → FirstFault bytes fault → (n : ℕ)
    → (n < fault.line) ↔ AreAdmitted n bytes

-- Lines with which a certificate's text begins are admitted.
abbrev pub CertLinesAreAdmitted : Type 0
CertLinesAreAdmitted = (n : ℕ) (bytes : List ℕ) → BeginCert n bytes → AreAdmitted n bytes

-- The bytes begin with no certificate's text.
abbrev pub HoldsNoText : List ℕ → Type 0
HoldsNoText bytes = (c : Cert) (more : List ℕ) → WellFormed c → bytes ≡ text c ++ more → ⊥

-- That the text ends too soon is told in the line after all whole ones.
abbrev pub TruncatedAtTheEnd : Type 0
TruncatedAtTheEnd =
    (bytes : List ℕ) (fault : TextFault) → FirstFault bytes fault → fault.kind ≡ Truncated
    → fault.line ≡ length (whole_lines bytes) + 1

-- The text ends too soon just where all its whole lines are admitted and it begins with no
-- certificate's text.
abbrev pub TruncatedJustWhere : Type 0
TruncatedJustWhere =
    (bytes : List ℕ)
    → FirstFault bytes (record { line = length (whole_lines bytes) + 1; kind = Truncated })
    ↔ (AreAdmitted (length (whole_lines bytes)) bytes × HoldsNoText bytes)

-- A wrong heading is told in the first line, which is whole and is no certificate's first line.
abbrev pub HeaderInLineOne : Type 0
HeaderInLineOne =
    (bytes : List ℕ) (fault : TextFault)
    → FirstFault bytes fault
    → fault.kind ≡ Header
    → (fault.line ≡ 1) × (1 ≤ length (whole_lines bytes)) × (BeginCert 1 bytes → ⊥)

-- The heading is wrong just where the first line is whole and is no certificate's first line.
abbrev pub HeaderJustWhere : Type 0
HeaderJustWhere =
    (bytes : List ℕ)
    → FirstFault bytes (record { line = 1; kind = Header })
    ↔ ((1 ≤ length (whole_lines bytes)) × (BeginCert 1 bytes → ⊥))

-- After these lines a second row is due, whose number would have to exceed the greatest one that a
-- text can write.
abbrev pub endless : List ℕ
endless =
    with_ends
    (codes "rabit-cert 1 buchi yes"
    ∷ codes "sizes 1 1 1"
    ∷ codes "log1 0"
    ∷ codes "log2 0"
    ∷ codes "rel 2"
    ∷ codes "row 999999999 0"
    ∷ [])

-- They are admitted, and no certificate's text begins with them: here no line is refused for what
-- could not follow it.
abbrev pub EndlessIsAdmitted : Type 0
EndlessIsAdmitted = AreAdmitted 6 endless × (BeginCert 6 endless → ⊥)
