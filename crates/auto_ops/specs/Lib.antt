pub mod Limits
pub mod Union
pub mod UnionParts
pub mod Intersection
pub mod UnderWay
pub mod Laws
