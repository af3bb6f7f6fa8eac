pub mod Draws
pub mod Drawn
pub mod Given
pub mod Laws
