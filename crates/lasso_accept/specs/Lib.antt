pub mod Plane
pub mod Guide
pub mod Countdown
pub mod LassoRun
pub mod Route
pub mod Looping
pub mod Tails
