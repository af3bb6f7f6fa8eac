-- Texts of certificates and bytes with a first fault: each bytes are one of the two.
use Rattle.std.specs.Prelude.{◌≡◌, ◌≢◌, ◌↔◌, ◌⊎◌, List, [], ◌++◌, ℕ, Ok}
use Rattle.cert_value.specs.declared.types.Cert.{Cert}
use Rattle.cert_text.specs.declared.faults.TextFault.{TextFault}
use Rattle.cert_line.specs.declared.faults.TextKind.TheVariants.{Trailing}
use Rattle.cert_value.specs.Text.{text}
use Rattle.cert_value.specs.WellFormed.{WellFormed}
use Rattle.cert_text.specs.Grammar.{reading}
use Rattle.cert_text.specs.Law.{FirstFault}

-- Bytes are read as a certificate just where it is well-formed and they are its text.
abbrev pub TextsAreRead : Type 0
TextsAreRead =
    (bytes : List ℕ) (c : Cert) → (reading bytes ≡ Ok c) ↔ (WellFormed c × (bytes ≡ text c))

-- Bytes are a certificate's text, or they have a first fault.
abbrev pub TextOrFault : Type 0
TextOrFault =
    (bytes : List ℕ)
    → ((c : Cert) × WellFormed c × (bytes ≡ text c))
    ⊎ ((fault : TextFault) × FirstFault bytes fault)

-- No text of a certificate has a first fault.
abbrev pub NoTextHasFault : Type 0
NoTextHasFault = (c : Cert) (fault : TextFault) → WellFormed c → FirstFault (text c) fault → ⊥

-- Bytes have one first fault at most.
abbrev pub OneFirstFault : Type 0
OneFirstFault =
    (bytes : List ℕ) (fault other : TextFault) → FirstFault bytes fault → FirstFault bytes other
    → fault ≡ other

-- What is told to be trailing follows a certificate's text.
abbrev pub TrailingFollowsText : Type 0
TrailingFollowsText =
    (bytes : List ℕ) (fault : TextFault)
    → FirstFault bytes fault
    → fault.kind ≡ Trailing
    → (c : Cert) × (more : List ℕ) × WellFormed c × (more ≢ []) × (bytes ≡ text c ++ more)
