pub mod Marks
pub mod Counts
