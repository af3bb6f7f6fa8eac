pub mod BitLemmas
pub mod SetLemmas
pub mod MoveLemmas
pub mod ReachLemmas
