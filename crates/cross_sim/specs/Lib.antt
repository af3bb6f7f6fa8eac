pub mod Cross
pub mod Raising
pub mod Rules
pub mod Sides
pub mod Written
