pub mod Laws
pub mod KeptParts
pub mod Gathering
pub mod Cycles
pub mod Goals
