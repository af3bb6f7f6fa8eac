pub mod Stages
pub mod Front
pub mod Laws
