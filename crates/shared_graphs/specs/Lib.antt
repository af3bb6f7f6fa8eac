pub mod Memo
pub mod Graphs
pub mod Looping
pub mod Glimpses
pub mod GraphPairs
pub mod GraphBlocks
pub mod PoolShares
