pub mod KindNames
pub mod Shapes
pub mod Lines
pub mod Agrees
