pub mod Calls
pub mod Judging
