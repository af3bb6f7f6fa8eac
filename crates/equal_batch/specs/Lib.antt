pub mod Equality
pub mod Questions
pub mod Laws
