pub mod Kept
pub mod Ends
pub mod Marks
pub mod Made
