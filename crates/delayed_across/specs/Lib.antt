pub mod Answered
pub mod Listed
pub mod Reached
pub mod Refused
pub mod Laws
