pub mod Columns
pub mod Stored
