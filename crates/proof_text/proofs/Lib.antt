pub mod ProofTextLemmas
pub mod ProofLemmas
pub mod ProofHeads
