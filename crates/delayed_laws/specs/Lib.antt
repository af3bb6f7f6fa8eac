pub mod Across
pub mod Announced
pub mod Greatest
pub mod Listed
