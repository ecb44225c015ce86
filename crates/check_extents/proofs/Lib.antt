pub mod Inside
pub mod Skipping
pub mod Noting
pub mod Putting
pub mod Pushing
