pub mod Kinds
pub mod Passes
pub mod Settled
pub mod Logs
pub mod Known
pub mod Size
pub mod Laws
pub mod Texts
