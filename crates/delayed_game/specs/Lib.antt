pub mod Across
pub mod Pairings
pub mod Levels
pub mod Before
pub mod Settling
pub mod Boards
pub mod Played
