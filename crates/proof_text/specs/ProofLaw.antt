-- The law of texts.
use Rattle.std.specs.Prelude.{◌≡◌, ℕ, List, [], ◌++◌}
use Rattle.proof_text.specs.declared.types.Proof.{Proof}
use Rattle.proof_text.specs.ProofText.{ProofFormed, proof_text}

-- No text of a proof is a proper front of another's, and different proofs have different texts.
abbrev pub OneProofText : Type 0
OneProofText =
    (p q : Proof) (more : List ℕ) → ProofFormed p → ProofFormed q
    → proof_text p ++ more ≡ proof_text q → (more ≡ []) × (p ≡ q)
