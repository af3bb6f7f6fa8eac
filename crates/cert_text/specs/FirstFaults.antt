-- Where the first fault of a certificate's text stands, told by the texts of certificates.
use Rattle.std.specs.Prelude.{◌≡◌, ◌≢◌, ◌==◌, ℕ, ◌+◌, ◌-◌, ◌<◌, ◌≤◌, List, [], ◌++◌, length, take}
use Rattle.std.specs.List.{slice_split}
use Rattle.cert_value.specs.declared.types.Cert.{Cert}
use Rattle.cert_text.specs.declared.faults.TextFault.{TextFault}
use Rattle.cert_line.specs.declared.faults.TextKind.TheVariants.{Truncated, Trailing}
use Rattle.cert_value.specs.Text.{text}
use Rattle.cert_value.specs.WellFormed.{WellFormed}
use Rattle.cert_text.specs.Law.{FirstFault}

-- The bytes cut at each LF. The last piece is what follows the last LF.
abbrev pub pieces : List ℕ → List (List ℕ)
pieces bytes = slice_split (λ b. b == 10) bytes

-- The lines of the bytes that end in LF, each without its LF: every piece but the last.
abbrev pub whole_lines : List ℕ → List (List ℕ)
whole_lines bytes = take (length (pieces bytes) - 1) (pieces bytes)

-- Both have n whole lines, and their first n lines are the same.
pub record BeginAlike (n : ℕ) (bytes others : List ℕ) : Type 0 where
  pub lines : n ≤ length (whole_lines bytes)
  pub other_lines : n ≤ length (whole_lines others)
  pub same : take n (whole_lines bytes) ≡ take n (whole_lines others)

-- The first n lines of the bytes are whole, and are the first n lines of a well-formed
-- certificate's text.
abbrev pub BeginCert : ℕ → List ℕ → Type 0
BeginCert n bytes = (c : Cert) × WellFormed c × BeginAlike n bytes (text c)

-- If the first n lines begin a certificate's text, a first fault stands after line n.
abbrev pub FaultStandsLater : Type 0
FaultStandsLater =
    (bytes : List ℕ) (n : ℕ) (fault : TextFault) → BeginCert n bytes → FirstFault bytes fault
    → n < fault.line

-- If the first fault is neither that the text ends too soon nor that it goes on, its line is whole,
-- and the lines up to that one begin no certificate's text.
abbrev pub LinesBeginNone : Type 0
LinesBeginNone =
    (bytes : List ℕ) (fault : TextFault)
    → FirstFault bytes fault
    → fault.kind ≢ Truncated
    → fault.kind ≢ Trailing
    → (fault.line ≤ length (whole_lines bytes)) × (BeginCert fault.line bytes → ⊥)

-- What follows a certificate's text is trailing, in the line after the text's lines.
abbrev pub MoreIsTrailing : Type 0
MoreIsTrailing =
    (c : Cert) (more : List ℕ)
    → WellFormed c
    → more ≢ []
    → FirstFault (text c ++ more)
    (record { line = length (whole_lines (text c)) + 1; kind = Trailing })
