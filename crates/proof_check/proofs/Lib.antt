pub mod BlockLemmas
pub mod ListLemmas
pub mod EvidenceLemmas
pub mod OneLemmas
