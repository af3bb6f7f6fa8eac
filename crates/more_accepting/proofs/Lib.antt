pub mod MoreLaws
pub mod AvoidLemmas
pub mod PartLemmas
