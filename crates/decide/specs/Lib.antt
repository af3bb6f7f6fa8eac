pub mod Terms
pub mod Searches
pub mod Written
pub mod Answer
pub mod Laws
pub mod Rows
pub mod Logs
pub mod Bodies
