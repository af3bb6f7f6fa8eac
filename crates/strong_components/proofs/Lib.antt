pub mod StateLemmas
pub mod EnterLemmas
pub mod GroupLemmas
pub mod CloseLemmas
pub mod GoLemmas
pub mod StepLemmas
pub mod StartLemmas
