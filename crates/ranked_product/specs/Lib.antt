pub mod Alike
pub mod Rules
pub mod Laws
