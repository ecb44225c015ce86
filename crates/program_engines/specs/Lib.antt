pub mod Engines
pub mod Names
