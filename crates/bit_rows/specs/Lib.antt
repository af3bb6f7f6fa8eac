pub mod Walks
pub mod Blocks
pub mod Loops
pub mod Marking
pub mod Room
