pub mod Marks
pub mod Taking
pub mod Records
pub mod Sweeping
