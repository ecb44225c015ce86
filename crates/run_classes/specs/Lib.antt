-- The statements in classes, in reading order.
pub mod Asking
pub mod Moves
pub mod Classes
