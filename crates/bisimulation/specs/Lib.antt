pub mod Coarsest
pub mod Signatures
pub mod Rounds
