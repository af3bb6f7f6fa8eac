pub mod Rules
pub mod Inclusion
pub mod Listing
pub mod Supers
pub mod Turns
pub mod Seen
pub mod Firsts
pub mod Laws
