pub mod Leaving
pub mod Shrinking
pub mod Laws
pub mod Prefixes
