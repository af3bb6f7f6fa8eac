-- Which lines a proof's text may begin with, as a certificate's.
use Rattle.std.specs.Prelude.{◌≡◌, ◌↔◌, ℕ, ◌+◌, ◌<◌, ◌≤◌, List, ◌++◌, length}
use Rattle.cert_text.specs.declared.faults.TextFault.{TextFault}
use Rattle.cert_line.specs.declared.faults.TextKind.TheVariants.{Header, Truncated}
use Rattle.proof_text.specs.declared.types.Proof.{Proof}
use Rattle.proof_text.specs.ProofText.{ProofFormed, proof_text}
use Rattle.proof_text.specs.ProofGrammar.{FirstProofFault}
use Rattle.cert_text.specs.FirstFaults.{whole_lines}
use Rattle.cert_text.specs.Admitted.{AreAdmittedBy}
use Rattle.proof_text.specs.Proofs.{BeginProof}

-- The first n lines are whole, and are admitted in a proof's text.
abbrev pub AreProofAdmitted : ℕ → List ℕ → Type 0
AreProofAdmitted = AreAdmittedBy FirstProofFault

-- The first fault stands at the first line with which the lines up to it are not admitted: none is
-- refused for what follows it.
abbrev pub ProofFaultEndsAdmitted : Type 0
ProofFaultEndsAdmitted =
    (bytes : List ℕ) (fault : TextFault) → FirstProofFault bytes fault → (n : ℕ)
    → (n < fault.line) ↔ AreProofAdmitted n bytes

-- Lines with which a proof's text begins are admitted.
abbrev pub ProofLinesAreAdmitted : Type 0
ProofLinesAreAdmitted = (n : ℕ) (bytes : List ℕ) → BeginProof n bytes → AreProofAdmitted n bytes

-- The bytes begin with no proof's text.
abbrev pub HoldsNoProofText : List ℕ → Type 0
HoldsNoProofText bytes =
    (p : Proof) (more : List ℕ) → ProofFormed p → bytes ≡ proof_text p ++ more → ⊥

-- That the text ends too soon is told in the line after all whole ones.
abbrev pub ProofTruncatedAtTheEnd : Type 0
ProofTruncatedAtTheEnd =
    (bytes : List ℕ) (fault : TextFault) → FirstProofFault bytes fault → fault.kind ≡ Truncated
    → fault.line ≡ length (whole_lines bytes) + 1

-- The text ends too soon just where all its whole lines are admitted and it begins with no proof's
-- text.
abbrev pub ProofTruncatedJustWhere : Type 0
ProofTruncatedJustWhere =
    (bytes : List ℕ)
    → FirstProofFault bytes (record { line = length (whole_lines bytes) + 1; kind = Truncated })
    ↔ (AreProofAdmitted (length (whole_lines bytes)) bytes × HoldsNoProofText bytes)

-- A wrong heading is told in the first line, which is whole and is no proof's first line.
abbrev pub ProofHeaderInLineOne : Type 0
ProofHeaderInLineOne =
    (bytes : List ℕ) (fault : TextFault)
    → FirstProofFault bytes fault
    → fault.kind ≡ Header
    → (fault.line ≡ 1) × (1 ≤ length (whole_lines bytes)) × (BeginProof 1 bytes → ⊥)

-- The heading is wrong just where the first line is whole and is no proof's first line.
abbrev pub ProofHeaderJustWhere : Type 0
ProofHeaderJustWhere =
    (bytes : List ℕ)
    → FirstProofFault bytes (record { line = 1; kind = Header })
    ↔ ((1 ≤ length (whole_lines bytes)) × (BeginProof 1 bytes → ⊥))
