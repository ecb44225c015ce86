pub mod Reading
pub mod Writing
pub mod Accepting
pub mod Exact
pub mod Standing
