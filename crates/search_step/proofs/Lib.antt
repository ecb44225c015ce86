pub mod Statements
pub mod Acts
