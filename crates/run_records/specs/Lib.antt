pub mod Resumed
pub mod Ready
