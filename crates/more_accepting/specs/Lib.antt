pub mod More
pub mod Making
pub mod Laws
