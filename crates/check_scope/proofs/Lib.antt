pub mod Names
pub mod Marked
pub mod Walking
pub mod Statements
pub mod Blocks
pub mod Whole
