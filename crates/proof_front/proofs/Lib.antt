pub mod StageLemmas
pub mod OneLemmas
pub mod StateLemmas
pub mod TruthLemmas
