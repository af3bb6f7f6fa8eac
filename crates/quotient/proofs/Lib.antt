pub mod MergeLaws
pub mod DelayedLaws
pub mod CountLemmas
pub mod DistinctLemmas
pub mod MergedLemmas
