pub mod ProofText
pub mod ProofGrammar
pub mod ProofLaw
pub mod Proofs
pub mod ProofAdmitted
