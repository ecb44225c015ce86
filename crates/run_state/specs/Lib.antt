-- The state of a run, in reading order.
pub mod Limits
pub mod Turns
pub mod Halts
pub mod Ended
pub mod Listed
