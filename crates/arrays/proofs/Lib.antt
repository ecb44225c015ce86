pub mod Cells
pub mod Targets
pub mod Storing
pub mod Moves
pub mod Names
pub mod Reading
pub mod Running
pub mod Found
