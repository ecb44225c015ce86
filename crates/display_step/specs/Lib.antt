-- A step of the display engine, in reading order.
pub mod Finding
pub mod Ready
pub mod Turning
pub mod Turns
