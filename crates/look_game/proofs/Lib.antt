pub mod TakingLemmas
pub mod RowLemmas
pub mod NearLemmas
pub mod VisitLemmas
pub mod AskedLemmas
pub mod PlayLemmas
pub mod SameLemmas
