pub mod Block
pub mod Added
pub mod Covering
pub mod Prints
