-- The first fault of bytes that are no proof's text, told by the texts of proofs.
use Rattle.std.specs.Prelude.{◌≡◌, ◌≢◌, ◌↔◌, ◌⊎◌, ℕ, ◌+◌, ◌<◌, ◌≤◌, List, [], ◌++◌, length, Ok}
use Rattle.cert_text.specs.declared.faults.TextFault.{TextFault}
use Rattle.cert_line.specs.declared.faults.TextKind.TheVariants.{Truncated, Trailing}
use Rattle.proof_text.specs.declared.types.Proof.{Proof}
use Rattle.proof_text.specs.ProofText.{ProofFormed, proof_text}
use Rattle.proof_text.specs.ProofGrammar.{proof_reading, FirstProofFault}
use Rattle.cert_text.specs.FirstFaults.{whole_lines, BeginAlike}

-- Bytes are read as a proof just where it has a text and they are that.
abbrev pub ProofTextsAreRead : Type 0
ProofTextsAreRead =
    (bytes : List ℕ) (p : Proof)
    → (proof_reading bytes ≡ Ok p) ↔ (ProofFormed p × (bytes ≡ proof_text p))

-- Bytes are a proof's text, or they have a first fault.
abbrev pub ProofTextOrFault : Type 0
ProofTextOrFault =
    (bytes : List ℕ)
    → ((p : Proof) × ProofFormed p × (bytes ≡ proof_text p))
    ⊎ ((fault : TextFault) × FirstProofFault bytes fault)

-- No text of a proof has a first fault.
abbrev pub NoProofTextHasFault : Type 0
NoProofTextHasFault =
    (p : Proof) (fault : TextFault) → ProofFormed p → FirstProofFault (proof_text p) fault → ⊥

-- Bytes have one first fault at most.
abbrev pub OneFirstProofFault : Type 0
OneFirstProofFault =
    (bytes : List ℕ) (fault other : TextFault) → FirstProofFault bytes fault
    → FirstProofFault bytes other → fault ≡ other

-- The first n lines of the bytes are whole, and are the first n lines of a proof's text.
abbrev pub BeginProof : ℕ → List ℕ → Type 0
BeginProof n bytes = (p : Proof) × ProofFormed p × BeginAlike n bytes (proof_text p)

-- If the first n lines begin a proof's text, a first fault stands after line n.
abbrev pub ProofFaultStandsLater : Type 0
ProofFaultStandsLater =
    (bytes : List ℕ) (n : ℕ) (fault : TextFault) → BeginProof n bytes → FirstProofFault bytes fault
    → n < fault.line

-- If the first fault is neither that the text ends too soon nor that it goes on, its line is whole,
-- and the lines up to that one begin no proof's text.
abbrev pub ProofLinesBeginNone : Type 0
ProofLinesBeginNone =
    (bytes : List ℕ) (fault : TextFault)
    → FirstProofFault bytes fault
    → fault.kind ≢ Truncated
    → fault.kind ≢ Trailing
    → (fault.line ≤ length (whole_lines bytes)) × (BeginProof fault.line bytes → ⊥)

-- What follows a proof's text is trailing, in the line after the text's lines.
abbrev pub ProofMoreIsTrailing : Type 0
ProofMoreIsTrailing =
    (p : Proof) (more : List ℕ)
    → ProofFormed p
    → more ≢ []
    → FirstProofFault (proof_text p ++ more)
    (record { line = length (whole_lines (proof_text p)) + 1; kind = Trailing })

-- What is told to be trailing follows a proof's text.
abbrev pub ProofTrailingFollowsText : Type 0
ProofTrailingFollowsText =
    (bytes : List ℕ) (fault : TextFault)
    → FirstProofFault bytes fault
    → fault.kind ≡ Trailing
    → (p : Proof) × (more : List ℕ) × ProofFormed p × (more ≢ []) × (bytes ≡ proof_text p ++ more)
