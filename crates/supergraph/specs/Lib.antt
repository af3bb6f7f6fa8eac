pub mod Stands
pub mod Words
pub mod Minimal
