pub mod Sharing
pub mod Fields
pub mod SegmentSteps
pub mod WordSlots
pub mod LiveBlocks
pub mod LinkLemmas
pub mod PoolLemmas
pub mod StoreLemmas
