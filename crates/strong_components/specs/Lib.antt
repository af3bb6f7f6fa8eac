pub mod Graph
pub mod UnderWay
pub mod Steps
pub mod States
