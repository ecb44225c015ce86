pub mod Crossing
pub mod Records
