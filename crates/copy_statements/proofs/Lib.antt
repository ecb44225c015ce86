pub mod Asks
pub mod Acts
