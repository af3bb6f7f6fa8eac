-- What a reader of a text gives, against what the text is.
use Rattle.std.specs.Prelude.{◌≡◌, ℕ, Result, Ok, Err}
use Rattle.cert_text.specs.declared.faults.CertReadFault.{CertReadFault}
use Rattle.cert_text.specs.declared.faults.CertReadFault.TheVariants.{Text, Memory}
use Rattle.cert_line.specs.declared.faults.LineFault.{LineFault}
use Rattle.cert_line.specs.declared.faults.LineFault.TheVariants as line_fault
use Rattle.cert_text.specs.declared.faults.TextFault.{TextFault}

-- It gives what the text is, or want of memory.
abbrev pub Told : {C : Type 0} → Result C TextFault → Result C CertReadFault → Type 0
Told told (Ok c) = told ≡ Ok c
Told told (Err (Text fault)) = told ≡ Err fault
Told told (Err Memory) = Unit {0}

-- The fault of a line, at the line with this number.
abbrev pub located : ℕ → LineFault → CertReadFault
located line (line_fault.Text kind) = Text (record { line = line; kind = kind })
located line (line_fault.Memory) = Memory
