pub mod Words
pub mod Ahead
pub mod Records
