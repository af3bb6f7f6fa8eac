pub mod Ranked
pub mod Reached
pub mod Laws
pub mod ClosedPairs
pub mod Ascending
