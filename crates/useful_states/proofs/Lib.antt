pub mod KeepLaws
pub mod PartLemmas
pub mod GatherLemmas
pub mod RunLemmas
pub mod CycleLemmas
pub mod UsefulLemmas
