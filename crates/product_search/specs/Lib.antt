pub mod Found
pub mod Arcs
pub mod Words
pub mod Ranks
pub mod Decision
pub mod Laws
