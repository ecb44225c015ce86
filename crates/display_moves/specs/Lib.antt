-- The moves of the display engine, in reading order.
pub mod Running
pub mod Moving
