pub mod Taking
pub mod Marks
pub mod Near
pub mod Asked
pub mod Playing
pub mod Visiting
