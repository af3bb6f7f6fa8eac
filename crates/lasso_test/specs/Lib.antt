pub mod Room
pub mod Loops
pub mod Laws
