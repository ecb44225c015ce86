-- A step of the static-chain engine, in reading order.
pub mod Fields
pub mod Numbers
pub mod Moves
pub mod Moved
pub mod Acted
pub mod Entries
pub mod Turning
pub mod Turns
