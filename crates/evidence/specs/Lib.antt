pub mod Entries
pub mod Tables
pub mod Evidence
pub mod Laws
