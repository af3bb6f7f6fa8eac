-- The law of texts, and when a fault is the first one.
use Rattle.std.specs.Prelude.{◌≡◌, ℕ, List, [], ◌++◌, Err}
use Rattle.cert_value.specs.declared.types.Cert.{Cert}
use Rattle.cert_text.specs.declared.faults.TextFault.{TextFault}
use Rattle.cert_value.specs.Text.{text}
use Rattle.cert_value.specs.WellFormed.{WellFormed}
use Rattle.cert_text.specs.Grammar.{reading}

-- No text of a certificate is a proper front of another's, and different certificates have
-- different texts.
abbrev pub OneText : Type 0
OneText =
    (c d : Cert) (more : List ℕ) → WellFormed c → WellFormed d → text c ++ more ≡ text d
    → (more ≡ []) × (c ≡ d)

-- The bytes are no certificate's text, and this is their first fault.
abbrev pub FirstFault : List ℕ → TextFault → Type 0
FirstFault bytes fault = reading bytes ≡ Err fault
