-- Statements whose names are found, in reading order.
pub mod Finding
pub mod Calling
pub mod Cells
