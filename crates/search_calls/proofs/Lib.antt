pub mod Handing
pub mod Calls
