pub mod Text
pub mod WellFormed
pub mod Printed
pub mod Tokens
