pub mod Cycles
pub mod Walk
pub mod Held
pub mod Thin
