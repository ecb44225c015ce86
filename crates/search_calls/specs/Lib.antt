pub mod Passing
pub mod Reading
