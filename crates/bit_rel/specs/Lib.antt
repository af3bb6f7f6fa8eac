pub mod Relation
pub mod Stored
