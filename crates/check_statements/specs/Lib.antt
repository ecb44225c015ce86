pub mod Shapes
pub mod Walked
