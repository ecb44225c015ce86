pub mod Marks
pub mod Judging
