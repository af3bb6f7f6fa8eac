pub mod Laws
pub mod Images
pub mod Counting
pub mod ClassesStored
