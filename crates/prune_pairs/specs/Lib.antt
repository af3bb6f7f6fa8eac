pub mod Least
pub mod Staying
pub mod Laws
