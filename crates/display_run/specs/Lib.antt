-- The display engine's run, in reading order.
pub mod Program
pub mod Looked
pub mod Ending
